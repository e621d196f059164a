-- What is said of a network is said of the table that it was read from.
use Rattle.std.proofs.Common.{◌≡◌, ℕ, zero, suc, Bool, not, ◌&&◌, ◌||◌, ltb, List, [], ◌∷◌, length, map, Some, None, Option, sym, refl, ap, ◌∙◌, subst}
use mathlib.Core.Path.{fun_ext}
use Rattle.std.proofs.lemmas.List.{length-map}
use Rattle.std.specs.List.{slice_get}
use Rattle.price.specs.Kind.{Operations, Laws}
use Rattle.spanning.specs.Closure.{share_label}
use Rattle.spanning.specs.Joined.{Graph}
use Rattle.spanning.specs.Trees.{Ranked, Ordered, greedy}
use Rattle.table.specs.declared.links.Link.{Link}
use Rattle.table.specs.Ranks.{ends, link_count, kept, free, before, first_end, second_end, role_in, is_kept, is_free}
use Rattle.table.specs.Table.{Table, Lawful}
use Rattle.table.specs.Trees.{is_spanned}
use Rattle.table.specs.Verdicts.{lowest, ring_link, cut_point}
use Rattle.table.proofs.Graphs.{ranked}
use Rattle.forest.specs.declared.networks.Network.{Network}
use Rattle.forest.specs.declared.networks.ends.Ends.{Ends}
use Rattle.forest.specs.Growing.{FreeInOrder, kept_of, free_of, ring_of, cut_of, tree_of}
use Rattle.forest.specs.Networks.{nowhere, link_at}
use Rattle.forest.specs.Readings.{count_of, ends_in, links_of, Reads}

-- a table's link as a network has it
abbrev seen : {K : Type 0} → Option (Link K) → Ends
seen None = nowhere
seen (Some l) = ends_in l

seen_first : {K : Type 0} (l : Option (Link K)) → (seen l).first ≡ first_end l
seen_first None = refl
seen_first (Some l) = refl

seen_second : {K : Type 0} (l : Option (Link K)) → (seen l).second ≡ second_end l
seen_second None = refl
seen_second (Some l) = refl

seen_role : {K : Type 0} (l : Option (Link K)) → (seen l).role ≡ role_in l
seen_role None = refl
seen_role (Some l) = refl

seen_at : {K : Type 0} (links : List (Link K)) (k : ℕ) → link_at (map ends_in links) k ≡ seen (slice_get links k)
seen_at [] k = refl
seen_at (l ∷ links) zero = refl
seen_at (l ∷ links) (suc k) = seen_at links k

module _ {K : Type 0} (t : Table K) (n : Network) (reads : Reads t n) where
  pub same_count : count_of n ≡ link_count t
  same_count = ap length reads.links ∙ length-map t.links ends_in

  link_same : (k : ℕ) → link_at n.links.items k ≡ seen (slice_get t.links k)
  link_same k = ap (λ links. link_at links k) reads.links ∙ seen_at t.links k

  -- the graph is that of the table
  pub same_graph : links_of n ≡ ends t
  same_graph =
      ap (λ f. of_ends f (links_of n).second) (fun_ext (λ k. ap (λ l. l.first) (link_same k) ∙ seen_first (slice_get t.links k)))
      ∙ ap (λ f. of_ends (ends t).first f) (fun_ext (λ k. ap (λ l. l.second) (link_same k) ∙ seen_second (slice_get t.links k))) where
        of_ends : (ℕ → ℕ) → (ℕ → ℕ) → Graph
        of_ends f s = record { first = f; second = s }

  -- and so are the marks
  pub role_same : (k : ℕ) → (link_at n.links.items k).role ≡ role_in (slice_get t.links k)
  role_same k = ap (λ l. l.role) (link_same k) ∙ seen_role (slice_get t.links k)

  pub same_kept : kept_of n ≡ kept t
  same_kept = fun_ext (λ k. ap is_kept (role_same k))

  pub same_free_lem : free_of n ≡ free t
  same_free_lem = fun_ext (λ k. ap is_free (role_same k))

  -- so the free links rank in the network as in the table
  module _ (o : Operations K) (laws : Laws o) (lawful : Lawful o t) where
    pub ranks : Ranked (count_of n) (kept_of n) (free_of n) (before o t)
    ranks = subst (λ m. Ranked m (kept_of n) (free_of n) (before o t)) (sym same_count) (subst (λ f. Ranked (link_count t) f (free_of n) (before o t)) (sym same_kept) (subst (λ f. Ranked (link_count t) (kept t) f (before o t)) (sym same_free_lem) (ranked o laws t lawful)))

    pub in_order : (order : List ℕ) → Ordered (free t) (before o t) order → FreeInOrder n (before o t) order
    in_order order ordered = record { ranked = ranks; ordered = subst (λ f. Ordered f (before o t) order) (sym same_free_lem) ordered }

  pub same_ring : ring_of n ≡ ring_link t
  same_ring = ap (λ g. ring g (count_of n) (kept_of n)) same_graph ∙ ap (λ m. ring (ends t) m (kept_of n)) same_count ∙ ap (λ f. ring (ends t) (link_count t) f) same_kept where
    ring : Graph → ℕ → (ℕ → Bool) → Option ℕ
    ring g m f = lowest m (λ k. f k && share_label g m (λ j. f j && ltb j k) (g.first k) (g.second k))

  pub same_cut : cut_of n ≡ cut_point t
  same_cut =
      ap (λ g. cut g (count_of n) n.points (kept_of n) (free_of n)) same_graph ∙ ap (λ m. cut (ends t) m n.points (kept_of n) (free_of n)) same_count ∙ ap (λ p. cut (ends t) (link_count t) p (kept_of n) (free_of n)) reads.points
      ∙ ap (λ f. cut (ends t) (link_count t) t.points f (free_of n)) same_kept ∙ ap (λ f. cut (ends t) (link_count t) t.points (kept t) f) same_free_lem where
        cut : Graph → ℕ → ℕ → (ℕ → Bool) → (ℕ → Bool) → Option ℕ
        cut g m p a f = lowest p (λ x. not (share_label g m (λ k. a k || f k) 0 x))

  pub same_tree : (less : ℕ → ℕ → Bool) → tree_of n less ≡ greedy (is_spanned t) (kept t) (free t) less
  same_tree less = ap (λ g. tree g (count_of n) (kept_of n) (free_of n)) same_graph ∙ ap (λ m. tree (ends t) m (kept_of n) (free_of n)) same_count ∙ ap (λ f. tree (ends t) (link_count t) f (free_of n)) same_kept ∙ ap (λ f. tree (ends t) (link_count t) (kept t) f) same_free_lem where
    tree : Graph → ℕ → (ℕ → Bool) → (ℕ → Bool) → ℕ → Bool
    tree g m a f = greedy (λ S e. share_label g m S (g.first e) (g.second e)) a f less
