-- There is exactly one tree shown where lawful trees exist.
use Rattle.std.proofs.Common.{◌≡◌, ℕ, Bool, T, sym, subst}
use Rattle.price.specs.Kind.{Operations, Laws}
use Rattle.spanning.specs.Joined.{NoRing}
use Rattle.spanning.specs.Lawful.{AllJoined}
use Rattle.spanning.specs.Sets.{without_link}
use Rattle.spanning.specs.Trees.{OnPath, Shown}
use Rattle.spanning.proofs.Greedy.{greedy_shown, shown_in_greedy, greedy_in_shown}
use Rattle.spanning.proofs.Subsets.{same_test}
use Rattle.spanning.proofs.Totals.{cost_same}
use Rattle.table.specs.Laws.{OneShown}
use Rattle.table.specs.Ranks.{ends, link_count, kept, free, before, price_of}
use Rattle.table.specs.Table.{Table, Lawful}
use Rattle.table.specs.Trees.{cost_of, OnPathOf, TreeShown, is_spanned, shown}
use Rattle.table.proofs.Graphs as graphs

module _ {K : Type 0} (o : Operations K) (laws : Laws o) (t : Table K) (lawful : Lawful o t) where
  -- the path between the ends of a link, by computation and by chains
  pub path_test : (X : ℕ → Bool) (h f : ℕ) → OnPathOf t X h f → OnPath (is_spanned t) (kept t) (free t) (before o t) X h f
  path_test X h f p = (p.0, graphs.to_test o laws t lawful X h p.1, (λ u. p.2 (graphs.from_test o laws t lawful (without_link X f) h u)))

  pub test_path : (X : ℕ → Bool) (h f : ℕ) → OnPath (is_spanned t) (kept t) (free t) (before o t) X h f → OnPathOf t X h f
  test_path X h f p = (p.0, graphs.from_test o laws t lawful X h p.1, (λ c. p.2 (graphs.to_test o laws t lawful (without_link X f) h c)))

  pub is_shown_lem : NoRing (ends t) (kept t) → AllJoined (ends t) t.points (kept t) (free t) → TreeShown o t (shown o t)
  is_shown_lem ring all = record {
    lawful = (graphs.verdicts o laws t lawful o.zero laws.zero_budget).exists ring all;
    ranks = λ h f fh out ff path. greedy_shown (is_spanned t) (graphs.closed o laws t lawful) (link_count t) (kept t) (free t) (before o t) (graphs.ranked o laws t lawful) h f fh out ff (path_test (shown o t) h f path);
  }

  module _ (X : ℕ → Bool) (s : TreeShown o t X) where
    tests : Shown (is_spanned t) (kept t) (free t) (before o t) X
    tests h f fh out ff path = s.ranks h f fh out ff (test_path X h f path)

    pub sole : (k : ℕ) → X k ≡ shown o t k
    sole k =
        let tree = graphs.tree_of o laws t lawful X s.lawful in
        same_test (X k) (shown o t k)
        (shown_in_greedy (is_spanned t) (graphs.closed o laws t lawful) (link_count t) (kept t) (free t) (before o t) (graphs.ranked o laws t lawful) X tree tests k)
        (greedy_in_shown (is_spanned t) (graphs.closed o laws t lawful) (link_count t) (kept t) (free t) (before o t) (graphs.ranked o laws t lawful) X tree tests k)

  -- equal sets cost the same
  pub same_cost : (X Y : ℕ → Bool) → ((k : ℕ) → X k ≡ Y k) → cost_of o t X ≡ cost_of o t Y
  same_cost X Y e = cost_same o laws t.carried (price_of o t) _ (graphs.priced o laws t lawful) (link_count t) X Y (λ k l u. subst T (e k) u) (λ k l u. subst T (sym (e k)) u)

  pub one_shown : OneShown o t
  one_shown = record {
    exists = is_shown_lem;
    sole = sole;
    no_ring = graphs.no_ring_lem o laws t lawful;
    all_joined = graphs.all_joined_lem o laws t lawful;
  }
