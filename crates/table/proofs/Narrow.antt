-- The narrowing of a lawful table whose kept links close no ring is lawful; its ranks are those below.
use Rattle.std.proofs.Common.{◌≡◌, ℕ, ◌+◌, ◌<◌, not, ◌&&◌, ◌||◌, T, ltb, Some, None, Option, sym, ap, ◌∙◌, subst, inl, inr, arith, ltb→lt, lt→ltb}
use native.Mathlib.Decide.{dec_lt}
use Rattle.std.proofs.lemmas.Option.{slice_get_past}
use Rattle.std.specs.List.{slice_get}
use Rattle.price.specs.Kind.{Operations, Laws}
use Rattle.spanning.specs.Joined.{NoRing}
use Rattle.spanning.specs.Sets.{count}
use Rattle.spanning.proofs.Few.{parts_and_links}
use Rattle.spanning.proofs.Search.{count_bound}
use Rattle.spanning.proofs.Subsets.{or_left, or_right, and_left, and_right, not_to, same_or, same_test}
use Rattle.spanning.proofs.Totals.{cost_count}
use Rattle.table.specs.declared.links.Link.{Link}
use Rattle.table.specs.Narrowed.{is_lowest, part_of, between, narrowed_link, narrowed, number_below}
use Rattle.table.specs.Ranks.{ends, link_count, kept, free, usable, price_of, price_in, before, role_in, is_kept, is_free}
use Rattle.table.specs.Table.{Table, Lawful, LawfulLink}
use Rattle.table.specs.Trees.{is_spanned}
use Rattle.table.proofs.Graphs as graphs
use Rattle.table.proofs.Numbers.{rising}
use Rattle.table.proofs.Parts as parts

module _ {K : Type 0} (o : Operations K) (laws : Laws o) (t : Table K) (lawful : Lawful o t) where
  abbrev N : Table K
  N = narrowed o t

  between_free : (k : ℕ) → T (between t k) → T (free t k)
  between_free k u = and_left (free t k) (not (is_spanned t (kept t) k)) u

  between_usable : (k : ℕ) → T (between t k) → T (usable t k)
  between_usable k u = or_right (kept t k) (free t k) (between_free k u)

  pub between_apart : (k : ℕ) → T (between t k) → part_of t ((ends t).first k) ≡ part_of t ((ends t).second k) → ⊥
  between_apart k u e =
      not_to (is_spanned t (kept t) k) (and_right (free t k) (not (is_spanned t (kept t) k)) u)
      (graphs.to_test o laws t lawful (kept t) k (parts.joined_in_part o laws t lawful ((ends t).first k) ((ends t).second k) e))

  lawful_link : (k : ℕ) → T (between t k) → LawfulLink o N.points (narrowed_link o t k)
  lawful_link k u = record {
    first_below = parts.part_below_lem o laws t lawful ((ends t).first k) ((graphs.on_points o laws t lawful).first_below k (between_usable k u));
    second_below = parts.part_below_lem o laws t lawful ((ends t).second k) ((graphs.on_points o laws t lawful).second_below k (between_usable k u));
    apart = between_apart k u;
    priced = (graphs.priced o laws t lawful).priced k (between_usable k u);
  }

  each_link : (i : ℕ) (l : Link K) → slice_get N.links i ≡ Some l → LawfulLink o N.points l
  each_link i l e = elim (dec_lt i (link_count N)) [
    | yes less ↦ subst (LawfulLink o N.points) (some_same (narrowed_link o t (number_below t i)) l (sym (parts.link_at o laws t lawful i less) ∙ e)) (lawful_link (number_below t i) (parts.number_at o laws t lawful i less).passes)
    | no less ↦ absurd (none_some l (sym (slice_get_past N.links i (omega arith)) ∙ e))
  ] where
    take : Link K → Option (Link K) → Link K
    take d None = d
    take d (Some l) = l

    some_same : (a b : Link K) → Some a ≡ Some b → a ≡ b
    some_same a b q = ap (take a) q

    tag : Option (Link K) → ℕ
    tag None = 0
    tag (Some l) = 1

    none_some : (l : Link K) → None ≡ Some l → ⊥
    none_some l q = let z : ◌≡◌ {A = ℕ} 0 1 = ap tag q in absurd (omega arith)

  module _ (ring : NoRing (ends t) (kept t)) where
    all_parts : count (is_lowest t) t.points + count (kept t) (link_count t) ≡ t.points
    all_parts = parts_and_links (ends t) (kept t) t.points ring (λ k u. (graphs.on_points o laws t lawful).first_below k (or_left (kept t k) (free t k) u)) (λ k u. (graphs.on_points o laws t lawful).second_below k (or_left (kept t k) (free t k) u)) (link_count t)

    pub narrowed_lawful : Lawful o N
    narrowed_lawful = record {
      at_least_one = (let p = parts.part_0 o laws t lawful in let b = parts.part_below_lem o laws t lawful 0 (let l = lawful.at_least_one in omega arith) in omega arith);
      few = (let c = count_bound (is_lowest t) t.points in let l = lawful.few in omega arith);
      short = (let e = parts.link_count_lem o laws t lawful in let c = count_bound (between t) (link_count t) in let l = lawful.short in omega arith);
      each = each_link;
      carries = lawful.carries + count (kept t) (link_count t);
      total = cost_count o laws t.carried (price_of o t) _ (graphs.priced o laws t lawful) (link_count t) (kept t) (λ k u. or_left (kept t k) (free t k) u);
      bounded = (let a = all_parts in let b = lawful.bounded in omega arith);
    }

  -- all its links are free
  pub free_above : (i : ℕ) → i < link_count N → T (free N i)
  free_above i l = subst (λ x. T (is_free (role_in x))) (sym (parts.link_at o laws t lawful i l)) tt

  pub none_kept : (i : ℕ) → T (kept N i) → ⊥
  none_kept i u = elim (dec_lt i (link_count N)) [
    | yes l ↦ subst (λ x. T (is_kept (role_in x))) (parts.link_at o laws t lawful i l) u
    | no l ↦ subst (λ x. T (is_kept (role_in x))) (slice_get_past N.links i (omega arith)) u
  ]

  pub price_above : (i : ℕ) → i < link_count N → price_of o N i ≡ price_of o t (number_below t i)
  price_above i l = ap (price_in o) (parts.link_at o laws t lawful i l)

  -- the order of the numbers
  number_rises : (i j : ℕ) → i < j → j < link_count N → number_below t i < number_below t j
  number_rises i j l m = rising (between t) (link_count t) (link_count t) i j l (let e = parts.link_count_lem o laws t lawful in omega arith)

  pub number_less : (i j : ℕ) → i < link_count N → j < link_count N → ltb i j ≡ ltb (number_below t i) (number_below t j)
  number_less i j li lj = same_test (ltb i j) (ltb (number_below t i) (number_below t j)) (λ u. lt→ltb (number_below t i) (number_below t j) (number_rises i j (ltb→lt i j u) lj)) (λ u. elim (dec_lt i j) [
    | yes l ↦ lt→ltb i j l
    | no l ↦ absurd (let below = ltb→lt (number_below t i) (number_below t j) u in elim (same_or i j) [
      | inl q ↦ (let e : number_below t i ≡ number_below t j = ap (number_below t) q in omega arith)
      | inr n ↦ (let up = number_rises j i (omega arith) li in omega arith)
    ])
  ])

  pub rank_above : (i j : ℕ) → i < link_count N → j < link_count N → before o N i j ≡ before o t (number_below t i) (number_below t j)
  rank_above i j li lj =
      let p = price_above i li in
      let q = price_above j lj in
      let b = number_below t in
      ap (λ x. not (o.not_above (price_of o N j) x) || ((o.not_above x (price_of o N j) && o.not_above (price_of o N j) x) && ltb i j)) p
      ∙ ap (λ x. not (o.not_above x (price_of o t (b i))) || ((o.not_above (price_of o t (b i)) x && o.not_above x (price_of o t (b i))) && ltb i j)) q
      ∙ ap (λ x. not (o.not_above (price_of o t (b j)) (price_of o t (b i))) || ((o.not_above (price_of o t (b i)) (price_of o t (b j)) && o.not_above (price_of o t (b j)) (price_of o t (b i))) && x)) (number_less i j li lj)
