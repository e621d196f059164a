-- A lawful table is a graph with marks, ranks and prices to which the theory of trees applies.
use Rattle.std.proofs.Common.{◌≡◌, ℕ, ◌<◌, Bool, ◌||◌, T, Some, None, Option, sym, refl, ap, ◌∙◌, arith}
use Rattle.std.proofs.lemmas.Option.{slice_get_past}
use Rattle.std.specs.List.{slice_get}
use Rattle.price.specs.Kind.{Operations, Laws}
use Rattle.spanning.specs.Closure.{Closure, Finite}
use Rattle.spanning.specs.Costs.{Priced}
use Rattle.spanning.specs.Joined.{Spans, NoRing}
use Rattle.spanning.specs.Laws.{Given}
use Rattle.spanning.specs.Lawful.{OnPoints, AllJoined}
use Rattle.spanning.specs.Sets.{without_link}
use Rattle.spanning.specs.Trees.{Ranked, Tree, greedy}
use Rattle.spanning.proofs.LabelsDecide.{joined_is, is_joined, graph_closure}
use Rattle.spanning.proofs.LawfulTrees as lawful-trees
use Rattle.spanning.proofs.Verdict as trees
use Rattle.spanning.proofs.Verdict.{VerdictsByLabels}
use Rattle.table.specs.declared.links.Link.{Link}
use Rattle.table.specs.Ranks.{ends, link_count, kept, free, price_of, price_in, before, role_in, is_kept, is_free, first_end, second_end}
use Rattle.table.specs.Table.{Table, Lawful}
use Rattle.table.specs.Trees.{LawfulTreeOf, is_spanned}
use Rattle.table.proofs.Order.{ranks_order}

module _ {K : Type 0} (o : Operations K) (laws : Laws o) (t : Table K) (lawful : Lawful o t) where
  ends_in : (k : ℕ) (l : Option (Link K)) → slice_get t.links k ≡ l → T (is_kept (role_in l) || is_free (role_in l)) → (first_end l < t.points) × (second_end l < t.points)
  ends_in k None e u = absurd u
  ends_in k (Some l) e u = ((lawful.each k l e).first_below, (lawful.each k l e).second_below)

  pub price_in_lem : (k : ℕ) (l : Option (Link K)) → slice_get t.links k ≡ l → T (is_kept (role_in l) || is_free (role_in l)) → T (o.price (price_in o l))
  price_in_lem k None e u = absurd u
  price_in_lem k (Some l) e u = (lawful.each k l e).priced

  pub finite : Finite (ends t) (link_count t)
  finite e h = ap first_end (slice_get_past t.links e h) ∙ sym (ap second_end (slice_get_past t.links e h))

  pub on_points : OnPoints (ends t) t.points (link_count t) (kept t) (free t)
  on_points = record {
    some = (let l = lawful.at_least_one in omega arith);
    finite = finite;
    first_below = λ k u. (ends_in k (slice_get t.links k) refl u).0;
    second_below = λ k u. (ends_in k (slice_get t.links k) refl u).1;
  }

  abbrev pub priced : Priced o t.carried (price_of o t) (λ k. kept t k || free t k)
  priced = record { carries = lawful.carries; total = lawful.total; priced = λ k u. price_in_lem k (slice_get t.links k) refl u }

  pub ranked : Ranked (link_count t) (kept t) (free t) (before o t)
  ranked = (ranks_order o laws t lawful).0

  pub cheap : (a b : ℕ) → T (free t a) → T (free t b) → T (before o t a b) → T (o.not_above (price_of o t a) (price_of o t b))
  cheap = (ranks_order o laws t lawful).1

  pub closed : Closure (is_spanned t)
  closed = graph_closure (ends t) (link_count t) finite

  -- spanned, by computation and by a chain
  pub to_test : (S : ℕ → Bool) (e : ℕ) → Spans (ends t) S e → T (is_spanned t S e)
  to_test S e c = joined_is (ends t) (link_count t) finite S ((ends t).first e) ((ends t).second e) c

  pub from_test : (S : ℕ → Bool) (e : ℕ) → T (is_spanned t S e) → Spans (ends t) S e
  from_test S e u = is_joined (ends t) (link_count t) finite S ((ends t).first e) ((ends t).second e) u

  pub verdicts : (budget : K) → T (o.budget budget) → VerdictsByLabels o (ends t) t.points (link_count t) (kept t) (free t) t.carried (price_of o t) budget (greedy (is_spanned t) (kept t) (free t) (before o t))
  verdicts budget limited = trees.by_labels o laws (ends t) t.points (link_count t) (kept t) (free t) (before o t) t.carried (price_of o t) budget on_points ranked priced cheap limited

  pub alone : NoRing (ends t) (kept t) → (e : ℕ) → T (kept t e) → T (is_spanned t (without_link (kept t) e) e) → ⊥
  alone = lawful-trees.alone_kept (ends t) t.points (link_count t) (kept t) (free t) (before o t) on_points

  pub tree_of : (X : ℕ → Bool) → LawfulTreeOf t X → Tree (is_spanned t) (kept t) (free t) (before o t) X
  tree_of = lawful-trees.tree_from_lawful (ends t) t.points (link_count t) (kept t) (free t) (before o t) on_points

  pub of_tree : AllJoined (ends t) t.points (kept t) (free t) → (X : ℕ → Bool) → Tree (is_spanned t) (kept t) (free t) (before o t) X → LawfulTreeOf t X
  of_tree = lawful-trees.lawful_from_tree (ends t) t.points (link_count t) (kept t) (free t) (before o t) on_points

  pub no_ring_lem : (X : ℕ → Bool) → LawfulTreeOf t X → NoRing (ends t) (kept t)
  no_ring_lem = lawful-trees.kept_no_ring (ends t) t.points (link_count t) (kept t) (free t) (before o t) on_points

  pub all_joined_lem : (X : ℕ → Bool) → LawfulTreeOf t X → AllJoined (ends t) t.points (kept t) (free t)
  all_joined_lem = lawful-trees.all_joined_lem (ends t) t.points (link_count t) (kept t) (free t) (before o t) on_points

  pub given : NoRing (ends t) (kept t) → Given o (is_spanned t) (link_count t) (kept t) (free t) (before o t) t.carried (price_of o t)
  given ring = record { closed = closed; ranked = ranked; no_ring = alone ring; priced = priced; cheap = cheap }
