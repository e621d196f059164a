use Rattle.std.proofs.Common.{◌≡◌, ◌+◌, ◌<◌, true, false, T, length, get_or, sym, refl, ap, ◌∙◌, subst, arith, rules}
use Rattle.std.proofs.lemmas.List.{get_or_default}
use Rattle.table.specs.declared.marks.Role.{Role}
use Rattle.table.specs.declared.marks.Role.TheVariants as role
use Rattle.table.specs.Ranks.{is_kept}
use Rattle.forest.specs.declared.networks.ends.Ends.{Ends}
use Rattle.forest.specs.Growing.{KeptTo}
use Rattle.forest.specs.Networks.{nowhere, link_at}
use Rattle.forest.proofs.GrowSteps.{or_none, taken, passed_over}
use Rattle.forest.proofs.growing.Grower.keep.Goals as goal
use Rattle.forest.proofs.growing.Grower.keep.Goals.{then-eq+then-not-join, then-eq+else-not-join, else-eq}

kept_role : (r : Role) → T (is_kept r) → r ≡ role.Kept
kept_role role.Free t = absurd t
kept_role role.Kept t = refl
kept_role role.Barred t = absurd t

pub loop-number-preserved : goal.loop-number-preserved
loop-number-preserved c =
    let n = c.args.network.now in
    let i = c.loop-number.number in
    let g = c.loop-number.self in
    let inv = c.loop-number.invariant in
    let link : Ends = get_or c.links-link-items.result.now i record { first = 0; second = 0; role = role.Free } in
    let at : link ≡ link_at n.links.items i = get_or_default c.links-link-items.result.now i _ nowhere (omega arith) ∙ ap (λ links. link_at links i) c.links-link-items.ensures in
    let room : i < length g.tree = omega (arith, n.short, ap (λ links. length links) c.links-link-items.ensures) in
    elim c.if-eq.branch [
      | then-eq+then-not-join w ↦
          let own : T (is_kept link.role) = let is : link.role ≡ role.Kept = search rules in subst (λ r. T (is_kept r)) (sym is) tt in
          record {
            long = search rules;
            kept = λ none. subst (KeptTo n (i + 1)) (sym w.self-is) (taken n i g _ link false at own room (sym w.if-not-join.true ∙ w.join.ensures.value) w.join.ensures.represents refl w.or-self.ensures (inv.kept none));
          }
      | then-eq+else-not-join w ↦
          let own : T (is_kept link.role) = let is : link.role ≡ role.Kept = search rules in subst (λ r. T (is_kept r)) (sym is) tt in
          record {
            long = search rules;
            kept = λ none. subst (KeptTo n (i + 1)) (sym w.self-is) (taken n i g _ link true at own room (sym w.if-not-join.false ∙ w.join.ensures.value) w.join.ensures.represents refl (sym (or_none g.ring)) (inv.kept none));
          }
      | else-eq w ↦
          let other : link.role ≡ role.Kept → ⊥ = λ q. search rules in
          record {
            long = search rules;
            kept = λ none. subst (KeptTo n (i + 1)) (sym w.self-is) (passed_over n i g (λ own. other (kept_role link.role (subst (λ l. T (is_kept l.role)) (sym at) own))) (inv.kept none));
          }
    ]
