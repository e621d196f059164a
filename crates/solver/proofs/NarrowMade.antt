-- What is made of a lawful table is its narrowing.
use Rattle.std.proofs.Common.{◌≡◌, ℕ, zero, suc, ◌<◌, Bool, true, false, cond, not, ◌&&◌, T, eqb, List, [], ◌∷◌, ◌++◌, map, get_or, is_some, Some, None, Option, sym, refl, ap, ◌∙◌, subst, eqb→eq}
use mathlib.Core.Path.{fun_ext}
use lib.Dec.{eqb_refl}
use Rattle.std.proofs.lemmas.List.{map-append}
use Rattle.price.specs.Kind.{Operations, Laws}
use Rattle.spanning.specs.Joined.{NoRing}
use Rattle.spanning.specs.Sets.{count}
use Rattle.spanning.proofs.Subsets.{or_right, and_left, same_test}
use Rattle.table.specs.declared.links.Link.{Link}
use Rattle.table.specs.declared.marks.Mark.TheVariants as mark
use Rattle.table.specs.Narrowed.{lowest_of, is_lowest, part_of, between, numbers_of, narrowed_link, numbers, narrowed}
use Rattle.table.specs.Ranks.{ends, link_count, kept, free, price_of}
use Rattle.table.specs.Table.{Table, Lawful}
use Rattle.table.specs.Trees.{cost_of, is_spanned}
use Rattle.table.specs.Verdicts.{kept_under, ring_link}
use Rattle.table.proofs.Graphs as graphs
use Rattle.table.proofs.Judged.{Found, search_lowest, no_ring_link}
use Rattle.table.proofs.Judged.Found.{some, none}
use Rattle.table.proofs.Parts as parts-of
use Rattle.forest.specs.declared.networks.Network.{Network}
use Rattle.forest.specs.Growing.{free_of}
use Rattle.forest.specs.Readings.{Reads, count_of}
use Rattle.forest.proofs.ReadTables as read
use Rattle.solver.specs.Narrowing.{relinked, apart_in}

-- two maps that are alike on the numbers that pass a test
same_maps : {X : Type 0} (f g : ℕ → X) (P : ℕ → Bool) → ((k : ℕ) → T (P k) → f k ≡ g k) → (m : ℕ) → map f (numbers_of m P) ≡ map g (numbers_of m P)
same_maps f g P alike zero = refl
same_maps {X} f g P alike (suc m) =
    map-append f (numbers_of m P) (cond (P m) (m ∷ []) [])
    ∙ ap (λ xs. xs ++ map f (cond (P m) (m ∷ []) [])) (same_maps f g P alike m)
    ∙ ap (λ xs. map g (numbers_of m P) ++ xs) (last (P m) (λ u. alike m u))
    ∙ sym (map-append g (numbers_of m P) (cond (P m) (m ∷ []) [])) where
      last : (b : Bool) → (T b → f m ≡ g m) → map f (cond b (m ∷ []) []) ≡ map g (cond b (m ∷ []) [])
      last true h = ap (λ x. x ∷ []) (h tt)
      last false h = refl

none_some : (r : Option ℕ) (n : ℕ) (P : ℕ → Bool) → Found n P r → r ≡ None → (k : ℕ) → k < n → T (P k) → ⊥
none_some r n P (some j l u least) e k m v = cc
none_some r n P (none h) e k m v = h k m v

pub some_of : (r : Option ℕ) → true ≡ is_some r → (l : ℕ) × (r ≡ Some l)
some_of None e = cc
some_of (Some l) e = (l, refl)

pub none_of : (r : Option ℕ) → false ≡ is_some r → r ≡ None
none_of None e = refl
none_of (Some l) e = cc

module _ {K : Type 0} (o : Operations K) (laws : Laws o) (t : Table K) (lawful : Lawful o t) where
  -- without a ring's link there is no ring
  pub no_ring_lem : ring_link t ≡ None → NoRing (ends t) (kept t)
  no_ring_lem e = no_ring_link o laws t lawful (none_some (ring_link t) (link_count t) (λ k. kept t k && is_spanned t (kept_under t k) k) (search_lowest (link_count t) (λ k. kept t k && is_spanned t (kept_under t k) k)) e)

  module _ (parts : List ℕ) (part_is : (x : ℕ) → x < t.points → get_or parts x 0 ≡ part_of t x) where
    first_part : (k : ℕ) → T (free t k) → get_or parts ((ends t).first k) 0 ≡ part_of t ((ends t).first k)
    first_part k u = part_is ((ends t).first k) ((graphs.on_points o laws t lawful).first_below k (or_right (kept t k) (free t k) u))

    second_part : (k : ℕ) → T (free t k) → get_or parts ((ends t).second k) 0 ≡ part_of t ((ends t).second k)
    second_part k u = part_is ((ends t).second k) ((graphs.on_points o laws t lawful).second_below k (or_right (kept t k) (free t k) u))

    -- links of the narrowing have their ends renumbered
    link_is : (k : ℕ) → T (between t k) → relinked o parts t k ≡ narrowed_link o t k
    link_is k u =
        let loose = and_left (free t k) (not (is_spanned t (kept t) k)) u in
        ap (λ x. of_ends x (get_or parts ((ends t).second k) 0)) (first_part k loose) ∙ ap (of_ends (part_of t ((ends t).first k))) (second_part k loose) where
          of_ends : ℕ → ℕ → Link K
          of_ends a b = record { first = a; second = b; mark = mark.Free; price = price_of o t k }

    -- parts are alike exactly if kept links join them
    same_parts : (k : ℕ) → T (free t k) → eqb (get_or parts ((ends t).first k) 0) (get_or parts ((ends t).second k) 0) ≡ is_spanned t (kept t) k
    same_parts k u =
        let x = (ends t).first k in
        let y = (ends t).second k in
        ap (λ a. eqb a (get_or parts y 0)) (first_part k u) ∙ ap (eqb (part_of t x)) (second_part k u)
        ∙ same_test (eqb (part_of t x) (part_of t y)) (is_spanned t (kept t) k)
        (λ v. subst (λ l. T (eqb (lowest_of t x) l)) (parts-of.same_lowest o laws t lawful x y (eqb→eq (part_of t x) (part_of t y) v)) (eqb_refl (lowest_of t x)))
        (λ v. subst (λ p. T (eqb (part_of t x) p)) (ap (count (is_lowest t)) (eqb→eq (lowest_of t x) (lowest_of t y) v)) (eqb_refl (part_of t x)))

    module _ (n : Network) (reads : Reads t n) where
      apart_at : (k : ℕ) → apart_in n parts k ≡ between t k
      apart_at k =
          ap (λ g. free_of n k && not (eqb (get_or parts (g.first k) 0) (get_or parts (g.second k) 0))) (read.same_graph t n reads)
          ∙ ap (λ f. f k && not (eqb (get_or parts ((ends t).first k) 0) (get_or parts ((ends t).second k) 0))) (read.same_free_lem t n reads)
          ∙ by_free (free t k) (same_parts k) where
            by_free : (b : Bool) → (T b → eqb (get_or parts ((ends t).first k) 0) (get_or parts ((ends t).second k) 0) ≡ is_spanned t (kept t) k) → (b && not (eqb (get_or parts ((ends t).first k) 0) (get_or parts ((ends t).second k) 0))) ≡ (b && not (is_spanned t (kept t) k))
            by_free true h = ap not (h tt)
            by_free false h = refl

      pub numbers_are : numbers_of (count_of n) (apart_in n parts) ≡ numbers t
      numbers_are = ap (λ m. numbers_of m (apart_in n parts)) (read.same_count t n reads) ∙ ap (numbers_of (link_count t)) (fun_ext apart_at)

    pub table_is : (points : ℕ) (below : List ℕ) (carried : K) → points ≡ count (is_lowest t) t.points → below ≡ numbers t → carried ≡ cost_of o t (kept t) → ◌≡◌ {A = Table K} (record { points = points; links = map (relinked o parts t) below; carried = carried }) (narrowed o t)
    table_is points below carried p b c =
        ap (λ x. of_parts x (map (relinked o parts t) below) carried) p
        ∙ ap (λ x. of_parts (count (is_lowest t) t.points) x carried) (ap (map (relinked o parts t)) b ∙ same_maps (relinked o parts t) (narrowed_link o t) (between t) link_is (link_count t))
        ∙ ap (of_parts (count (is_lowest t) t.points) (map (narrowed_link o t) (numbers t))) c where
          of_parts : ℕ → List (Link K) → K → Table K
          of_parts p l c = record { points = p; links = l; carried = c }
