use Rattle.std.proofs.Common.{◌≡◌, ℕ, ◌↔◌, T, List, Contains, sym, subst}
use Rattle.groups.specs.Groups.{Grouping, GroupedTo, group}
use Rattle.spanning.specs.Sets.{held}
use Rattle.forest.specs.declared.rooted.links_by_end.LinksByEnd.{LinksByEnd}
use Rattle.forest.specs.declared.rooted.links_by_end.ends.End.{End}
use Rattle.forest.specs.declared.rooted.links_by_end.ends.End.TheVariants.{First, Second}
use Rattle.forest.specs.LinkEnds.{with_end}
use Rattle.forest.specs.Readings.{links_of}
use Rattle.forest.proofs.RootEnds.{end_within, held_within}
use Rattle.forest.proofs.RootLinks.{grouped_at}
use Rattle.forest.proofs.rooted.links_by_end.LinksByEnd.at.Goals as goal

-- the items of a key are the links with that point at this end
told : (h : LinksByEnd) (end own : End) (q : end ≡ own) (groups : Grouping) → GroupedTo 1024 (with_end (links_of h.network.now) (held h.tree.now) own) 2048 groups → (point : ℕ) (items : List ℕ) → items ≡ group groups point → (e : ℕ) → Contains items e ↔ T (with_end (links_of h.network.now) (held h.tree.now) end point e)
told h end own q groups all point items is e =
    let X = held h.tree.now in
    subst (λ k. Contains items e ↔ T (with_end (links_of h.network.now) X k point e)) (sym q)
    (subst (λ xs. Contains xs e ↔ T (with_end (links_of h.network.now) X own point e)) (sym is) (grouped_at (links_of h.network.now) X own groups all (λ e t. held_within h.tree.now 2048 e h.long t) (end_within h.network.now own) point e))

pub returns-in-First : goal.returns-in-First
returns-in-First c = told c.args.self.now c.args.end First c.in-First.is c.args.self.now.firsts c.args.self.now.by_first c.args.point c.of.result c.of.ensures

pub returns-in-Second : goal.returns-in-Second
returns-in-Second c = told c.args.self.now c.args.end Second c.in-Second.is c.args.self.now.seconds c.args.self.now.by_second c.args.point c.of-in-Second.result c.of-in-Second.ensures
