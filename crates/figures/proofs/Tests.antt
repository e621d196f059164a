-- A table that carries zero is lawful if a test passes; of a lawful table each figure is what computes.
use Rattle.std.proofs.Common.{◌≡◌, ℕ, zero, suc, Bool, true, not, ◌&&◌, T, eqb, ltb, leb, List, [], ◌∷◌, length, Some, Option, sym, ◌∙◌, subst, arith, ltb→lt, leb→le}
use mathlib.Core.Path.{fun_ext}
use lib.Dec.{eqb_refl}
use Rattle.std.specs.List.{slice_get}
use Rattle.price.specs.Kind.{Operations, Laws, TotalOf}
use Rattle.price.specs.Kind.TotalOf.{none}
use Rattle.spanning.proofs.Subsets.{and_left, and_right, not_to}
use Rattle.table.specs.declared.links.Link.{Link}
use Rattle.table.specs.declared.verdicts.Finding.{Finding}
use Rattle.table.specs.declared.verdicts.Verdict.{Verdict}
use Rattle.table.specs.declared.verdicts.Verdict.TheVariants.{Fits}
use Rattle.table.specs.Findings.{FindingIs, SupportIs, finding_of, support_of}
use Rattle.table.specs.Table.{Table, Lawful, LawfulLink, most_points, most_links}
use Rattle.table.specs.Trees.{TreeShown, shown}
use Rattle.table.specs.Verdicts.{LeastCost, VerdictIs, verdict_of}
use Rattle.table.proofs.Finds.{finds, support_is}
use Rattle.table.proofs.Judged.{judged_true}
use Rattle.table.proofs.Shown.{sole}
use Rattle.figures.specs.Figures.{Settles, Shows, FindingsAre, SupportsAre}

-- what a function gives for 0, 1, 2 and so on, n numbers in all
abbrev pub firsts : {A : Type 0} → ℕ → (ℕ → A) → List A
firsts zero F = []
firsts (suc n) F = F 0 ∷ firsts n (λ k. F (suc k))

at_place : {A : Type 0} (n : ℕ) (F : ℕ → A) (e : ℕ) (x : A) → slice_get (firsts n F) e ≡ Some x → F e ≡ x
at_place zero F e x q = let z : ◌≡◌ {A = ℕ} 0 1 = cc in absurd (omega arith)
at_place (suc n) F zero x q = cc
at_place (suc n) F (suc e) x q = at_place n (λ k. F (suc k)) e x q

module _ {K : Type 0} (o : Operations K) where
  abbrev link_test : ℕ → Link K → Bool
  link_test points l = ltb l.first points && (ltb l.second points && (not (eqb l.first l.second) && o.price l.price))

  abbrev links_test : ℕ → List (Link K) → Bool
  links_test points [] = true
  links_test points (l ∷ ls) = link_test points l && links_test points ls

  abbrev pub table_test : Table K → Bool
  table_test t = ltb 0 t.points && (leb t.points most_points && (leb (length t.links) most_links && links_test t.points t.links))

  lawful_link : (points : ℕ) (l : Link K) → T (link_test points l) → LawfulLink o points l
  lawful_link points l u =
      let v = and_right (ltb l.first points) _ u in
      let w = and_right (ltb l.second points) _ v in
      record {
        first_below = ltb→lt l.first points (and_left (ltb l.first points) _ u);
        second_below = ltb→lt l.second points (and_left (ltb l.second points) _ v);
        apart = λ q. not_to (eqb l.first l.second) (and_left (not (eqb l.first l.second)) _ w) (subst (λ y. T (eqb l.first y)) q (eqb_refl l.first));
        priced = and_right (not (eqb l.first l.second)) _ w;
      }

  lawful_at : (points : ℕ) (ls : List (Link K)) → T (links_test points ls) → (i : ℕ) (l : Link K) → slice_get ls i ≡ Some l → LawfulLink o points l
  lawful_at points [] u i l q = let z : ◌≡◌ {A = ℕ} 0 1 = cc in absurd (omega arith)
  lawful_at points (k ∷ ls) u zero l q = let same : k ≡ l = cc in subst (LawfulLink o points) same (lawful_link points k (and_left (link_test points k) _ u))
  lawful_at points (k ∷ ls) u (suc i) l q = lawful_at points ls (and_right (link_test points k) _ u) i l q

  pub lawful_by : (t : Table K) → T (table_test t) → t.carried ≡ o.zero → Lawful o t
  lawful_by t passes empty =
      let rest = and_right (ltb 0 t.points) _ passes in
      let last-two = and_right (leb t.points most_points) _ rest in
      let few = leb→le t.points most_points (and_left (leb t.points most_points) _ rest) in
      record {
        at_least_one = (let l = ltb→lt 0 t.points (and_left (ltb 0 t.points) _ passes) in omega arith);
        few = few;
        short = leb→le (length t.links) most_links (and_left (leb (length t.links) most_links) _ last-two);
        each = lawful_at t.points t.links (and_right (leb (length t.links) most_links) _ last-two);
        carries = 0;
        total = subst (TotalOf o 0) (sym empty) none;
        bounded = omega arith;
      }

  module _ (laws : Laws o) (t : Table K) (lawful : Lawful o t) where
    pub settles : {v : Verdict K} (budget : K) → T (o.budget budget) → verdict_of o t budget ≡ v → Settles o t budget v
    settles budget limited q = record { is = subst (VerdictIs o t budget) q (judged_true o laws t lawful budget limited); computed = q }

    pub supports : {X : ℕ → Bool} {ss : List (Option ℕ)} → ((k : ℕ) → shown o t k ≡ X k) → (n : ℕ) → firsts n (support_of o t) ≡ ss → SupportsAre o t X ss
    supports same n q e s at =
        subst (λ Y. SupportIs o t Y e s) (fun_ext same) (subst (SupportIs o t (shown o t) e) (at_place n (support_of o t) e s (subst (λ xs. slice_get xs e ≡ Some s) (sym q) at)) (support_is o laws t lawful e))

    module _ (budget c : K) (limited : T (o.budget budget)) (fits : verdict_of o t budget ≡ Fits c) where
      pub shows : {X : ℕ → Bool} → ((k : ℕ) → shown o t k ≡ X k) → Shows o t X
      shows same =
          let least : LeastCost o t c × T (o.not_above c budget) = (settles budget limited fits).is in
          let is = least.0.is_shown in
          record {
            is = subst (TreeShown o t) (fun_ext (λ k. sole o laws t lawful least.0.tree is k ∙ same k)) is;
            only = λ Y s k. sole o laws t lawful Y s k ∙ same k;
          }

      pub findings : {fs : List Finding} (n : ℕ) → firsts n (finding_of o t budget) ≡ fs → FindingsAre o t budget fs
      findings n q e f at = subst (FindingIs o t budget e) (at_place n (finding_of o t budget) e f (subst (λ xs. slice_get xs e ≡ Some f) (sym q) at)) (finds o laws t lawful budget c limited fits e).finding
