-- What is told of paths and of replacements in the tree shown is the support of each link.
use Rattle.std.proofs.Common.{ℕ, Bool, T, List, get_or, Some, None, Option, sym, ap, ◌∙◌, subst, inl, inr, arith}
use native.Mathlib.Decide.{dec_lt}
use Rattle.price.specs.Kind.{Operations, Laws}
use Rattle.spanning.specs.Trees.{Ordered}
use Rattle.spanning.proofs.Subsets.{same_or}
use Rattle.table.specs.Findings.{LooseRejoins, LastOf, FirstOf, SupportIs, support_of}
use Rattle.table.specs.Ranks.{ends, free, before}
use Rattle.table.specs.Table.{Table, Lawful}
use Rattle.table.specs.Trees.{shown}
use Rattle.table.proofs.Finds.{support_is}
use Rattle.table.proofs.Sole.{one_support}
use Rattle.forest.specs.Paths.{LastFree, LastBetween}
use Rattle.forest.specs.Rooted.{Replaced, FirstRejoining}
use Rattle.forest.specs.Tables.{SupportsAre}

module _ {K : Type 0} (o : Operations K) (laws : Laws o) (t : Table K) (lawful : Lawful o t) (order : List ℕ) (ordered : Ordered (free t) (before o t) order) (e : ℕ) (fe : T (free t e)) where
  abbrev X : ℕ → Bool
  X = shown o t

  last_of : (l : ℕ) → LastBetween (ends t) (free t) (before o t) X ((ends t).first e) ((ends t).second e) l → LastOf o t X e l
  last_of l x = record { on_path = (x.loose, x.on_path); last = λ f p. x.last f p.0 p.1 }

  outside_is : (T (X e) → ⊥) → (r : Option ℕ) → LastFree (ends t) (free t) (before o t) X ((ends t).first e) ((ends t).second e) r → SupportIs o t X e r
  outside_is out (Some l) x = (fe, (λ n. last_of l x), (λ own. absurd (out own)))
  outside_is out None x = λ f. ((λ n g p. x g p.0 p.1), (λ own. absurd (out own)))

  first_of : (l : ℕ) → FirstRejoining (ends t) X order e l → FirstOf o t X e l
  first_of l x =
      let i = x.place in
      record {
        rejoins = (subst (λ j. T (free t j)) x.here (ordered.each i x.within), x.outside, x.rejoins);
        first = λ f p.
            let at = ordered.all f p.0 in
            elim (dec_lt at.0 i) [
              | yes less ↦ absurd ((subst (λ j. LooseRejoins o t X e j) (sym at.2) p).2 (x.earlier at.0 less (subst (λ j. LooseRejoins o t X e j) (sym at.2) p).1))
              | no less ↦ elim (same_or at.0 i) [
                | inl q ↦ inl (sym at.2 ∙ ap (λ j. get_or order j 0) q ∙ x.here)
                | inr apart ↦ inr (subst (λ j. T (before o t j f)) x.here (subst (λ j. T (before o t (get_or order i 0) j)) at.2 (ordered.sorted i at.0 (omega arith) at.1)))
              ]
            ];
      }

  inside_is : T (X e) → (r : Option ℕ) → Replaced (ends t) X order e r → SupportIs o t X e r
  inside_is own (Some l) x = (fe, (λ out. absurd (out own)), (λ u. first_of l x))
  inside_is own None x = λ f. (
    (λ out. absurd (out own)),
    (λ u g p.
        let at = ordered.all g p.0 in
        let here = subst (λ j. LooseRejoins o t X e j) (sym at.2) p in
        here.2 (x at.0 at.1 here.1)),
  )

  pub supports_are : (r : Option ℕ) → SupportsAre o t order e r
  supports_are r = record {
    outside = λ out x. one_support o laws t lawful X e r (support_of o t e) (outside_is out r x) (support_is o laws t lawful e);
    inside = λ own x. one_support o laws t lawful X e r (support_of o t e) (inside_is own r x) (support_is o laws t lawful e);
  }
