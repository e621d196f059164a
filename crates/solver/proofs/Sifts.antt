-- Supports and findings from what is told of each link.
use Rattle.std.proofs.Common.{◌≡◌, ℕ, Bool, true, false, cond, T, List, get_or, Some, None, Option, sym, refl, ap, ◌∙◌, subst, inl, inr}
use Rattle.price.specs.Kind.{Operations, Laws}
use Rattle.spanning.specs.Sets.{with_link, without_link}
use Rattle.spanning.specs.Trees.{Ordered}
use Rattle.spanning.proofs.Subsets.{true_or, or_right, without_old}
use Rattle.table.specs.declared.marks.Role.{Role}
use Rattle.table.specs.declared.marks.Role.TheVariants as role
use Rattle.table.specs.declared.verdicts.Finding.{Finding}
use Rattle.table.specs.declared.verdicts.Finding.TheVariants as finding
use Rattle.table.specs.Findings.{SupportIs, support_of, finding_of, first_to_rejoin, last_on_path, exchanged, open_or}
use Rattle.table.specs.Ranks.{ends, kept, free, usable, before, is_kept, is_free}
use Rattle.table.specs.Table.{Table, Lawful}
use Rattle.table.specs.Trees.{LawfulTreeOf, cost_of, shown}
use Rattle.table.proofs.Finds.{support_is}
use Rattle.forest.specs.declared.networks.Network.{Network}
use Rattle.forest.specs.Growing.{free_of}
use Rattle.forest.specs.Paths.{LastFree}
use Rattle.forest.specs.Networks.{link_at}
use Rattle.forest.specs.Readings.{Reads}
use Rattle.forest.specs.Rooted.{Replaced}
use Rattle.forest.proofs.ReadSupports.{supports_are}
use Rattle.forest.proofs.ReadTables as read
use Rattle.ranking.specs.declared.totals.Swap.{Swap}
use Rattle.ranking.specs.Totals.{swap_of, SwapsAnswered}
use Rattle.solver.specs.Sifting.{swap_for, judged_link, SupportedBy}
use Rattle.solver.proofs.Tests.{is_true, is_false}

module _ {K : Type 0} (o : Operations K) (laws : Laws o) (t : Table K) (lawful : Lawful o t) (n : Network) (reads : Reads t n) (order : List ℕ) (ordered : Ordered (free t) (before o t) order) where
  abbrev X : ℕ → Bool
  X = shown o t

  -- the support
  pub support_told : (e : ℕ) (r : Option ℕ) → SupportedBy n X (before o t) order e r → r ≡ support_of o t e
  support_told e r s = elim (true_or (free t e)) [
    | inr out ↦ s.not_free (λ f. out (subst (λ p. T (p e)) (read.same_free_lem t n reads) f)) ∙ sym (ap (λ b. cond b (cond (X e) (first_to_rejoin o t e) (last_on_path o t e)) None) (is_false (free t e) out))
    | inl fe ↦
        let f : T (free_of n e) = subst (λ p. T (p e)) (sym (read.same_free_lem t n reads)) fe in
        let are = supports_are o laws t lawful order ordered e fe r in
        elim (true_or (X e)) [
          | inl own ↦ are.inside own (subst (λ g. Replaced g X order e r) (read.same_graph t n reads) (s.inside f own))
          | inr gone ↦ are.outside gone (subst (λ p. LastFree (ends t) p (before o t) X ((ends t).first e) ((ends t).second e) r) (read.same_free_lem t n reads) (subst (λ g. LastFree g (free_of n) (before o t) X (g.first e) (g.second e) r) (read.same_graph t n reads) (s.outside f gone)))
        ]
  ]

  -- the test of a link's exchange
  module _ (tree : LawfulTreeOf t X) (budget : K) (swaps : List (Option Swap)) (fits : List Bool) (answered : SwapsAnswered o t X swaps budget fits) where
    answer : (e : ℕ) (s : Swap) → swap_of swaps e ≡ Some s → T (X s.gone) → T (usable t s.come) → (T (without_link X s.gone s.come) → ⊥) → get_or fits e false ≡ o.not_above (cost_of o t (with_link (without_link X s.gone) s.come)) budget
    answer = answered lawful tree.no_barred tree.no_ring

    module _ (e : ℕ) (swap_is : swap_of swaps e ≡ swap_for (X e) e (support_of o t e)) (fe : T (free t e)) where
      inside_test : T (X e) → (l : ℕ) → support_of o t e ≡ Some l → get_or fits e false ≡ o.not_above (cost_of o t (exchanged o t e l)) budget
      inside_test own l q =
          let is = (subst (SupportIs o t X e) q (support_is o laws t lawful e)).2 own in
          answer e (record { gone = e; come = l }) (swap_is ∙ ap (swap_for (X e) e) q ∙ ap (λ b. Some (cond b (record { gone = e; come = l }) (record { gone = l; come = e }))) (is_true (X e) own)) own (or_right (kept t l) (free t l) is.rejoins.0) (λ u. is.rejoins.1 (without_old X e l u))

      outside_test : (T (X e) → ⊥) → (l : ℕ) → support_of o t e ≡ Some l → get_or fits e false ≡ o.not_above (cost_of o t (exchanged o t l e)) budget
      outside_test out l q =
          let is = (subst (SupportIs o t X e) q (support_is o laws t lawful e)).1 out in
          answer e (record { gone = l; come = e }) (swap_is ∙ ap (swap_for (X e) e) q ∙ ap (λ b. Some (cond b (record { gone = e; come = l }) (record { gone = l; come = e }))) (is_false (X e) out)) is.on_path.1.0 (or_right (kept t e) (free t e) fe) (λ u. out (without_old X l e u))

      -- the finding of a free link
      inside_finding : T (X e) → (r : Option ℕ) → support_of o t e ≡ r → judged_link role.Free true r (get_or fits e false) ≡ open_or o t budget finding.Forced r (λ g. exchanged o t e g)
      inside_finding own None q = refl
      inside_finding own (Some l) q = ap (λ b. cond b finding.Open finding.Forced) (inside_test own l q)

      outside_finding : (T (X e) → ⊥) → (r : Option ℕ) → support_of o t e ≡ r → judged_link role.Free false r (get_or fits e false) ≡ open_or o t budget finding.Out r (λ l. exchanged o t l e)
      outside_finding out None q = refl
      outside_finding out (Some l) q = ap (λ b. cond b finding.Open finding.Out) (outside_test out l q)

      support_in : T (X e) → support_of o t e ≡ first_to_rejoin o t e
      support_in own = ap (λ b. cond b (cond (X e) (first_to_rejoin o t e) (last_on_path o t e)) None) (is_true (free t e) fe) ∙ ap (λ b. cond b (first_to_rejoin o t e) (last_on_path o t e)) (is_true (X e) own)

      support_out : (T (X e) → ⊥) → support_of o t e ≡ last_on_path o t e
      support_out out = ap (λ b. cond b (cond (X e) (first_to_rejoin o t e) (last_on_path o t e)) None) (is_true (free t e) fe) ∙ ap (λ b. cond b (first_to_rejoin o t e) (last_on_path o t e)) (is_false (X e) out)

      abbrev of_free : Finding
      of_free = cond (X e) (open_or o t budget finding.Forced (first_to_rejoin o t e) (λ g. exchanged o t e g)) (open_or o t budget finding.Out (last_on_path o t e) (λ l. exchanged o t l e))

      pub free_finding : judged_link role.Free (X e) (support_of o t e) (get_or fits e false) ≡ of_free
      free_finding = elim (true_or (X e)) [
        | inl own ↦
            ap (λ b. judged_link role.Free b (support_of o t e) (get_or fits e false)) (is_true (X e) own) ∙ inside_finding own (support_of o t e) refl ∙ ap (λ r. open_or o t budget finding.Forced r (λ g. exchanged o t e g)) (support_in own)
            ∙ sym (ap (λ b. cond b (open_or o t budget finding.Forced (first_to_rejoin o t e) (λ g. exchanged o t e g)) (open_or o t budget finding.Out (last_on_path o t e) (λ l. exchanged o t l e))) (is_true (X e) own))
        | inr out ↦
            ap (λ b. judged_link role.Free b (support_of o t e) (get_or fits e false)) (is_false (X e) out) ∙ outside_finding out (support_of o t e) refl ∙ ap (λ r. open_or o t budget finding.Out r (λ l. exchanged o t l e)) (support_out out)
            ∙ sym (ap (λ b. cond b (open_or o t budget finding.Forced (first_to_rejoin o t e) (λ g. exchanged o t e g)) (open_or o t budget finding.Out (last_on_path o t e) (λ l. exchanged o t l e))) (is_false (X e) out))
      ]

    -- the finding of any link, by its role
    finding_by : (e : ℕ) (r : Role) → (link_at n.links.items e).role ≡ r → swap_of swaps e ≡ swap_for (X e) e (support_of o t e) → judged_link r (X e) (support_of o t e) (get_or fits e false) ≡ finding_of o t budget e
    finding_by e role.Kept q s = sym (ap (λ b. cond b finding.Forced (cond (free t e) (of_any e) finding.Out)) (sym (ap (λ p. p e) (read.same_kept t n reads)) ∙ ap is_kept q)) where
      of_any : ℕ → Finding
      of_any k = cond (X k) (open_or o t budget finding.Forced (first_to_rejoin o t k) (λ g. exchanged o t k g)) (open_or o t budget finding.Out (last_on_path o t k) (λ l. exchanged o t l k))
    finding_by e role.Barred q s =
        sym (ap (λ b. cond b finding.Forced (cond (free t e) (of_any e) finding.Out)) (sym (ap (λ p. p e) (read.same_kept t n reads)) ∙ ap is_kept q) ∙ ap (λ b. cond b (of_any e) finding.Out) (sym (ap (λ p. p e) (read.same_free_lem t n reads)) ∙ ap is_free q)) where
          of_any : ℕ → Finding
          of_any k = cond (X k) (open_or o t budget finding.Forced (first_to_rejoin o t k) (λ g. exchanged o t k g)) (open_or o t budget finding.Out (last_on_path o t k) (λ l. exchanged o t l k))
    finding_by e role.Free q s =
        let loose_here : free t e ≡ true = sym (ap (λ p. p e) (read.same_free_lem t n reads)) ∙ ap is_free q in
        free_finding e s (subst T (sym loose_here) tt)
        ∙ sym (ap (λ b. cond b finding.Forced (cond (free t e) (of_any e) finding.Out)) (sym (ap (λ p. p e) (read.same_kept t n reads)) ∙ ap is_kept q) ∙ ap (λ b. cond b (of_any e) finding.Out) loose_here) where
          of_any : ℕ → Finding
          of_any k = cond (X k) (open_or o t budget finding.Forced (first_to_rejoin o t k) (λ g. exchanged o t k g)) (open_or o t budget finding.Out (last_on_path o t k) (λ l. exchanged o t l k))

    pub finding_told : (e : ℕ) → swap_of swaps e ≡ swap_for (X e) e (support_of o t e) → judged_link (link_at n.links.items e).role (X e) (support_of o t e) (get_or fits e false) ≡ finding_of o t budget e
    finding_told e s = finding_by e (link_at n.links.items e).role refl s
