-- Findings and supports by computation are those of the definitions.
use Rattle.std.proofs.Common.{◌≡◌, ℕ, Bool, true, false, cond, not, T, ◌⊎◌, Some, None, Option, sym, refl, ◌∙◌, subst, inl, inr}
use Rattle.price.specs.Kind.{Operations, Laws}
use Rattle.spanning.specs.Joined.{NoRing}
use Rattle.spanning.specs.Lawful.{AllJoined}
use Rattle.spanning.specs.Laws as laws-of-trees
use Rattle.spanning.specs.Sets.{without_link}
use Rattle.spanning.specs.Trees.{LastOnPath, FirstToRejoin, Rejoins}
use Rattle.spanning.proofs.Found as findings-of-trees
use Rattle.spanning.proofs.Told as told
use Rattle.spanning.proofs.Subsets.{and_both, and_left, and_right, not_from, not_to, true_or, or_cases, with_new, with_cases, without_apart}
use Rattle.table.specs.declared.verdicts.Finding.{Finding}
use Rattle.table.specs.declared.verdicts.Finding.TheVariants as finding
use Rattle.table.specs.declared.verdicts.Verdict.TheVariants as verdict
use Rattle.table.specs.Findings.{FindingIs, LooseOnPath, LooseRejoins, LastOf, FirstOf, SupportIs, is_on_path, does_rejoin, last_on_path, first_to_rejoin, support_of, exchanged, open_or, finding_of}
use Rattle.table.specs.Laws.{LeastOf, Finds, Supports}
use Rattle.table.specs.Ranks.{ends, link_count, kept, free, before, price_of}
use Rattle.table.specs.Table.{Table, Lawful}
use Rattle.table.specs.Trees.{LawfulTreeOf, cost_of, is_spanned, shown}
use Rattle.table.specs.Verdicts.{Fitting, LeastCost, VerdictIs, verdict_of, least_cost}
use Rattle.table.proofs.Best.{Ends, search_end}
use Rattle.table.proofs.Best.Ends.{last, empty}
use Rattle.table.proofs.Graphs as graphs
use Rattle.table.proofs.Judged.{judged_true}
use Rattle.table.proofs.Order.{free_below_lem}
use Rattle.table.proofs.Sole.{one_support, one_finding}
use Rattle.table.proofs.Shown.{path_test, test_path, sole, same_cost, is_shown_lem}

module _ {K : Type 0} (o : Operations K) (laws : Laws o) (t : Table K) (lawful : Lawful o t) where
  abbrev G : ℕ → Bool
  G = shown o t

  -- the tests, taken apart and put together
  path_yes : (e f : ℕ) → T (is_on_path o t e f) → LooseOnPath o t G e f
  path_yes e f u =
      let rest = and_right (free t f) _ u in
      let last-two = and_right (G f) _ rest in
      (and_left (free t f) _ u, (and_left (G f) _ rest, graphs.from_test o laws t lawful G e (and_left (is_spanned t G e) _ last-two), (λ c. not_to (is_spanned t (without_link G f) e) (and_right (is_spanned t G e) _ last-two) (graphs.to_test o laws t lawful (without_link G f) e c))))

  yes_path : (e f : ℕ) → LooseOnPath o t G e f → T (is_on_path o t e f)
  yes_path e f p = and_both (free t f) _ p.0 (and_both (G f) _ p.1.0 (and_both (is_spanned t G e) _ (graphs.to_test o laws t lawful G e p.1.1) (not_from (is_spanned t (without_link G f) e) (λ u. p.1.2 (graphs.from_test o laws t lawful (without_link G f) e u)))))

  rejoin_yes : (e f : ℕ) → T (does_rejoin o t e f) → LooseRejoins o t G e f
  rejoin_yes e f u =
      let rest = and_right (free t f) _ u in
      (and_left (free t f) _ u, not_to (G f) (and_left (not (G f)) _ rest), (λ c. not_to (is_spanned t (without_link G e) f) (and_right (not (G f)) _ rest) (graphs.to_test o laws t lawful (without_link G e) f c)))

  yes_rejoin : (e f : ℕ) → LooseRejoins o t G e f → T (does_rejoin o t e f)
  yes_rejoin e f p = and_both (free t f) _ p.0 (and_both (not (G f)) _ (not_from (G f) p.1) (not_from (is_spanned t (without_link G e) f) (λ u. p.2 (graphs.from_test o laws t lawful (without_link G e) f u))))

  -- the last on a path, and the first to rejoin, by search
  total_path : (e a b : ℕ) → T (is_on_path o t e a) → T (is_on_path o t e b) → (a ≡ b) ⊎ (T (before o t a b) ⊎ T (before o t b a))
  total_path e a b u v = (graphs.ranked o laws t lawful).either a b (and_left (free t a) _ u) (and_left (free t b) _ v)

  onward_path : (e a b c : ℕ) → T (is_on_path o t e a) → T (is_on_path o t e b) → T (is_on_path o t e c) → T (before o t a b) → T (before o t b c) → T (before o t a c)
  onward_path e a b c u v w = (graphs.ranked o laws t lawful).transitive a b c (and_left (free t a) _ u) (and_left (free t b) _ v) (and_left (free t c) _ w)

  abbrev after : ℕ → ℕ → Bool
  after a b = before o t b a

  total_rejoin : (e a b : ℕ) → T (does_rejoin o t e a) → T (does_rejoin o t e b) → (a ≡ b) ⊎ (T (after a b) ⊎ T (after b a))
  total_rejoin e a b u v = elim ((graphs.ranked o laws t lawful).either a b (and_left (free t a) _ u) (and_left (free t b) _ v)) [
    | inl q ↦ inl q
    | inr r ↦ elim r [ inl s ↦ inr (inr s) | inr s ↦ inr (inl s) ]
  ]

  onward_rejoin : (e a b c : ℕ) → T (does_rejoin o t e a) → T (does_rejoin o t e b) → T (does_rejoin o t e c) → T (after a b) → T (after b c) → T (after a c)
  onward_rejoin e a b c u v w r s = (graphs.ranked o laws t lawful).transitive c b a (and_left (free t c) _ w) (and_left (free t b) _ v) (and_left (free t a) _ u) s r

  -- what the two searches find, in the words of the definitions
  pub data Last (e : ℕ) : Option ℕ → Type 0 where
    at : (l : ℕ) → LastOf o t G e l → Last e (Some l)
    nowhere : ((f : ℕ) → LooseOnPath o t G e f → ⊥) → Last e None

  pub data First (e : ℕ) : Option ℕ → Type 0 where
    here : (l : ℕ) → FirstOf o t G e l → First e (Some l)
    never : ((f : ℕ) → LooseRejoins o t G e f → ⊥) → First e None

  last_by : (e : ℕ) (r : Option ℕ) → Ends (is_on_path o t e) (before o t) (total_path e) (onward_path e) (link_count t) r → Last e r
  last_by e r (last l less u all) = at l (record { on_path = path_yes e l u; last = λ f p. all f (free_below_lem t f p.0) (yes_path e f p) })
  last_by e r (empty h) = nowhere (λ f p. h f (free_below_lem t f p.0) (yes_path e f p))

  first_by : (e : ℕ) (r : Option ℕ) → Ends (does_rejoin o t e) after (total_rejoin e) (onward_rejoin e) (link_count t) r → First e r
  first_by e r (last l less u all) = here l (record { rejoins = rejoin_yes e l u; first = λ f p. all f (free_below_lem t f p.0) (yes_rejoin e f p) })
  first_by e r (empty h) = never (λ f p. h f (free_below_lem t f p.0) (yes_rejoin e f p))

  pub last_found : (e : ℕ) → Last e (last_on_path o t e)
  last_found e = last_by e (last_on_path o t e) (search_end (is_on_path o t e) (before o t) (total_path e) (onward_path e) (link_count t))

  pub first_found : (e : ℕ) → First e (first_to_rejoin o t e)
  first_found e = first_by e (first_to_rejoin o t e) (search_end (does_rejoin o t e) after (total_rejoin e) (onward_rejoin e) (link_count t))

  -- the same in the words of the theory of trees
  last_tree : (e l : ℕ) → LastOf o t G e l → LastOnPath (is_spanned t) (kept t) (free t) (before o t) G e l
  last_tree e l x = record { loose = x.on_path.0; on_path = path_test o laws t lawful G e l x.on_path.1; last = λ f ff p. x.last f (ff, test_path o laws t lawful G e f p) }

  rejoin_tree : (e f : ℕ) → LooseRejoins o t G e f → Rejoins (is_spanned t) (kept t) (free t) (before o t) G e f
  rejoin_tree e f p = (p.0, p.1, (λ u. p.2 (graphs.from_test o laws t lawful (without_link G e) f u)))

  tree_rejoin : (e f : ℕ) → Rejoins (is_spanned t) (kept t) (free t) (before o t) G e f → LooseRejoins o t G e f
  tree_rejoin e f p = (p.0, p.1, (λ c. p.2 (graphs.to_test o laws t lawful (without_link G e) f c)))

  first_tree : (e l : ℕ) → FirstOf o t G e l → FirstToRejoin (is_spanned t) (kept t) (free t) (before o t) G e l
  first_tree e l x = record { rejoins = rejoin_tree e l x.rejoins; first = λ f p. x.first f (tree_rejoin e f p) }

  -- supports
  support_in : (e : ℕ) → T (free t e) → T (G e) → (r : Option ℕ) → First e r → SupportIs o t G e r
  support_in e fe own r (here l x) = (fe, (λ out. absurd (out own)), (λ u. x))
  support_in e fe own r (never h) = λ f. ((λ out. absurd (out own)), (λ u. h))

  support_out : (e : ℕ) → T (free t e) → (T (G e) → ⊥) → (r : Option ℕ) → Last e r → SupportIs o t G e r
  support_out e fe out r (at l x) = (fe, (λ n. x), (λ own. absurd (out own)))
  support_out e fe out r (nowhere h) = λ f. ((λ n. h), (λ own. absurd (out own)))

  is_true : (b : Bool) → T b → b ≡ true
  is_true true u = refl
  is_true false u = absurd u

  is_false : (b : Bool) → (T b → ⊥) → b ≡ false
  is_false true u = absurd (u tt)
  is_false false u = refl

  pub support_is : (e : ℕ) → SupportIs o t G e (support_of o t e)
  support_is e = elim (true_or (free t e)) [
    | inr barred ↦ subst (λ b. SupportIs o t G e (cond b (cond (G e) (first_to_rejoin o t e) (last_on_path o t e)) None)) (sym (is_false (free t e) barred)) (λ f. absurd (barred f))
    | inl fe ↦ subst (λ b. SupportIs o t G e (cond b (cond (G e) (first_to_rejoin o t e) (last_on_path o t e)) None)) (sym (is_true (free t e) fe)) (elim (true_or (G e)) [
      | inl own ↦ subst (λ b. SupportIs o t G e (cond b (first_to_rejoin o t e) (last_on_path o t e))) (sym (is_true (G e) own)) (support_in e fe own (first_to_rejoin o t e) (first_found e))
      | inr out ↦ subst (λ b. SupportIs o t G e (cond b (first_to_rejoin o t e) (last_on_path o t e))) (sym (is_false (G e) out)) (support_out e fe out (last_on_path o t e) (last_found e))
    ])
  ]

  -- findings, where the least cost is within the budget
  module _ (budget : K) (limited : T (o.budget budget)) (ring : NoRing (ends t) (kept t)) (all : AllJoined (ends t) t.points (kept t) (free t)) (fits : T (o.not_above (least_cost o t) budget)) where
    tells : (e : ℕ) → T (free t e) → laws-of-trees.Findings o (is_spanned t) (link_count t) (kept t) (free t) (before o t) t.carried (price_of o t) budget e
    tells = findings-of-trees.findings o laws (is_spanned t) (link_count t) (kept t) (free t) (before o t) t.carried (price_of o t) (graphs.given o laws t lawful ring) budget limited fits

    fitting_g : Fitting o t budget G
    fitting_g = record { lawful = (is_shown_lem o laws t lawful ring all).lawful; within = fits }

    lawful_in : (e g : ℕ) → T (free t e) → T (G e) → FirstOf o t G e g → LawfulTreeOf t (exchanged o t e g)
    lawful_in e g fe own x = graphs.of_tree o laws t lawful all (exchanged o t e g) ((told.lacking o laws (is_spanned t) (link_count t) (kept t) (free t) (before o t) t.carried (price_of o t) (graphs.given o laws t lawful ring) e fe own).tree g (first_tree e g x))

    lawful_out : (e l : ℕ) → T (free t e) → (T (G e) → ⊥) → LastOf o t G e l → LawfulTreeOf t (exchanged o t l e)
    lawful_out e l fe out x = graphs.of_tree o laws t lawful all (exchanged o t l e) ((told.holding o laws (is_spanned t) (link_count t) (kept t) (free t) (before o t) t.carried (price_of o t) (graphs.given o laws t lawful ring) e fe out).tree l (last_tree e l x))

    gone : (e g : ℕ) → T (G e) → (T (G g) → ⊥) → T (exchanged o t e g e) → ⊥
    gone e g own out u = elim (with_cases (without_link G e) g e u) [
      | inl s ↦ without_apart G e e s refl
      | inr q ↦ out (subst (λ j. T (G j)) q own)
    ]

    open_in : (e g : ℕ) → T (free t e) → T (G e) → FirstOf o t G e g → T (o.not_above (cost_of o t (exchanged o t e g)) budget) → FindingIs o t budget e finding.Open
    open_in e g fe own x cheap = ((G, fitting_g, own), (exchanged o t e g, record { lawful = lawful_in e g fe own x; within = cheap }, gone e g own x.rejoins.1))

    open_out : (e l : ℕ) → T (free t e) → (T (G e) → ⊥) → LastOf o t G e l → T (o.not_above (cost_of o t (exchanged o t l e)) budget) → FindingIs o t budget e finding.Open
    open_out e l fe out x cheap = ((exchanged o t l e, record { lawful = lawful_out e l fe out x; within = cheap }, with_new (without_link G l) e), (G, fitting_g, out))

    finding_in : (e : ℕ) → T (free t e) → T (G e) → (r : Option ℕ) → First e r → FindingIs o t budget e (open_or o t budget finding.Forced r (λ g. exchanged o t e g))
    finding_in e fe own r (never h) = λ X f. (tells e fe).forced_alone own (λ g p. h g (tree_rejoin e g p)) X (graphs.tree_of o laws t lawful X f.lawful) f.within
    finding_in e fe own r (here g x) = elim (true_or (o.not_above (cost_of o t (exchanged o t e g)) budget)) [
      | inl cheap ↦ subst (λ b. FindingIs o t budget e (cond b finding.Open finding.Forced)) (sym (is_true (o.not_above (cost_of o t (exchanged o t e g)) budget) cheap)) (open_in e g fe own x cheap)
      | inr dear ↦ subst (λ b. FindingIs o t budget e (cond b finding.Open finding.Forced)) (sym (is_false (o.not_above (cost_of o t (exchanged o t e g)) budget) dear))
          (λ X f. (tells e fe).is_forced own g (first_tree e g x) dear X (graphs.tree_of o laws t lawful X f.lawful) f.within)
    ]

    finding_out : (e : ℕ) → T (free t e) → (T (G e) → ⊥) → (r : Option ℕ) → Last e r → FindingIs o t budget e (open_or o t budget finding.Out r (λ l. exchanged o t l e))
    finding_out e fe out r (nowhere h) = λ X f. (tells e fe).out_alone out (λ g fg p. h g (fg, test_path o laws t lawful G e g p)) X (graphs.tree_of o laws t lawful X f.lawful) f.within
    finding_out e fe out r (at l x) = elim (true_or (o.not_above (cost_of o t (exchanged o t l e)) budget)) [
      | inl cheap ↦ subst (λ b. FindingIs o t budget e (cond b finding.Open finding.Out)) (sym (is_true (o.not_above (cost_of o t (exchanged o t l e)) budget) cheap)) (open_out e l fe out x cheap)
      | inr dear ↦ subst (λ b. FindingIs o t budget e (cond b finding.Open finding.Out)) (sym (is_false (o.not_above (cost_of o t (exchanged o t l e)) budget) dear))
          (λ X f. (tells e fe).is_out out l (last_tree e l x) dear X (graphs.tree_of o laws t lawful X f.lawful) f.within)
    ]

    abbrev of_free : ℕ → Finding
    of_free e = cond (G e) (open_or o t budget finding.Forced (first_to_rejoin o t e) (λ g. exchanged o t e g)) (open_or o t budget finding.Out (last_on_path o t e) (λ l. exchanged o t l e))

    finding_free : (e : ℕ) → T (free t e) → FindingIs o t budget e (of_free e)
    finding_free e fe = elim (true_or (G e)) [
      | inl own ↦ subst (λ b. FindingIs o t budget e (cond b (open_or o t budget finding.Forced (first_to_rejoin o t e) (λ g. exchanged o t e g)) (open_or o t budget finding.Out (last_on_path o t e) (λ l. exchanged o t l e)))) (sym (is_true (G e) own)) (finding_in e fe own (first_to_rejoin o t e) (first_found e))
      | inr out ↦ subst (λ b. FindingIs o t budget e (cond b (open_or o t budget finding.Forced (first_to_rejoin o t e) (λ g. exchanged o t e g)) (open_or o t budget finding.Out (last_on_path o t e) (λ l. exchanged o t l e)))) (sym (is_false (G e) out)) (finding_out e fe out (last_on_path o t e) (last_found e))
    ]

    pub finding_is : (e : ℕ) → FindingIs o t budget e (finding_of o t budget e)
    finding_is e = elim (true_or (kept t e)) [
      | inl own ↦ subst (λ b. FindingIs o t budget e (cond b finding.Forced (cond (free t e) (of_free e) finding.Out))) (sym (is_true (kept t e) own)) (λ X f. f.lawful.holds_kept e own)
      | inr other ↦ subst (λ b. FindingIs o t budget e (cond b finding.Forced (cond (free t e) (of_free e) finding.Out))) (sym (is_false (kept t e) other)) (elim (true_or (free t e)) [
        | inl fe ↦ subst (λ b. FindingIs o t budget e (cond b (of_free e) finding.Out)) (sym (is_true (free t e) fe)) (finding_free e fe)
        | inr barred ↦ subst (λ b. FindingIs o t budget e (cond b (of_free e) finding.Out)) (sym (is_false (free t e) barred)) (λ X f own. elim (or_cases (kept t e) (free t e) (f.lawful.no_barred e own)) [ inl k ↦ other k | inr k ↦ barred k ])
      ])
    ]

  fits_by : (budget c : K) → T (o.budget budget) → verdict_of o t budget ≡ verdict.Fits c → LeastCost o t c × T (o.not_above c budget)
  fits_by budget c limited fits = subst (VerdictIs o t budget) fits (judged_true o laws t lawful budget limited)

  pub finding_true : (budget c : K) → T (o.budget budget) → verdict_of o t budget ≡ verdict.Fits c → (e : ℕ) → FindingIs o t budget e (finding_of o t budget e)
  finding_true budget c limited fits e =
      let least = fits_by budget c limited fits in
      let tree = least.0.tree in
      let is = least.0.is_shown in
      let same : c ≡ least_cost o t = sym least.0.costs ∙ same_cost o laws t lawful tree (shown o t) (sole o laws t lawful tree is) in
      finding_is budget limited (graphs.no_ring_lem o laws t lawful tree is.lawful) (graphs.all_joined_lem o laws t lawful tree is.lawful) (subst (λ x. T (o.not_above x budget)) same least.1) e

  pub finds : (budget c : K) → T (o.budget budget) → verdict_of o t budget ≡ verdict.Fits c → (e : ℕ) → Finds o t budget e
  finds budget c limited fits e =
      let least = fits_by budget c limited fits in
      let fit : Fitting o t budget least.0.tree = record { lawful = least.0.is_shown.lawful; within = subst (λ v. T (o.not_above v budget)) (sym least.0.costs) least.1 } in
      record {
        finding = finding_true budget c limited fits e;
        only_finding = λ f is. one_finding o laws t lawful budget e least.0.tree fit f (finding_of o t budget e) is (finding_true budget c limited fits e);
      }

  -- what supports tell
  module _ (ring : NoRing (ends t) (kept t)) (all : AllJoined (ends t) t.points (kept t) (free t)) (e : ℕ) (fe : T (free t e)) where
    abbrev given : laws-of-trees.Given o (is_spanned t) (link_count t) (kept t) (free t) (before o t) t.carried (price_of o t)
    given = graphs.given o laws t lawful ring

    pub least_holding : (T (G e) → ⊥) → (l : ℕ) → LastOf o t G e l → LeastOf o t (λ X. X e) (exchanged o t l e)
    least_holding out l x =
        let Told-here = told.holding o laws (is_spanned t) (link_count t) (kept t) (free t) (before o t) t.carried (price_of o t) given e fe out in
        record {
          lawful = graphs.of_tree o laws t lawful all (exchanged o t l e) (Told-here.tree l (last_tree e l x));
          passes = with_new (without_link G l) e;
          least = λ Y tree own. Told-here.least l (last_tree e l x) Y (graphs.tree_of o laws t lawful Y tree) own;
        }

    pub none_holding : (T (G e) → ⊥) → ((f : ℕ) → LooseOnPath o t G e f → ⊥) → (X : ℕ → Bool) → LawfulTreeOf t X → T (X e) → ⊥
    none_holding out nobody X tree own = (told.holding o laws (is_spanned t) (link_count t) (kept t) (free t) (before o t) t.carried (price_of o t) given e fe out).none (λ g fg p. nobody g (fg, test_path o laws t lawful G e g p)) X (graphs.tree_of o laws t lawful X tree) own

    pub least_lacking : T (G e) → (g : ℕ) → FirstOf o t G e g → LeastOf o t (λ X. not (X e)) (exchanged o t e g)
    least_lacking own g x =
        let Told-here = told.lacking o laws (is_spanned t) (link_count t) (kept t) (free t) (before o t) t.carried (price_of o t) given e fe own in
        record {
          lawful = graphs.of_tree o laws t lawful all (exchanged o t e g) (Told-here.tree g (first_tree e g x));
          passes = not_from (exchanged o t e g e) (λ u. elim (with_cases (without_link G e) g e u) [
            | inl s ↦ without_apart G e e s refl
            | inr q ↦ x.rejoins.1 (subst (λ j. T (G j)) q own)
          ]);
          least = λ Y tree lacks. Told-here.least g (first_tree e g x) Y (graphs.tree_of o laws t lawful Y tree) (not_to (Y e) lacks);
        }

    pub none_lacking : T (G e) → ((f : ℕ) → LooseRejoins o t G e f → ⊥) → (X : ℕ → Bool) → LawfulTreeOf t X → T (X e)
    none_lacking own nobody X tree = (told.lacking o laws (is_spanned t) (link_count t) (kept t) (free t) (before o t) t.carried (price_of o t) given e fe own).all (λ g p. nobody g (tree_rejoin e g p)) X (graphs.tree_of o laws t lawful X tree)

  pub supports : (Y : ℕ → Bool) → LawfulTreeOf t Y → (e : ℕ) → Supports o t e
  supports Y tree e =
      let ring = graphs.no_ring_lem o laws t lawful Y tree in
      let all = graphs.all_joined_lem o laws t lawful Y tree in
      let is = support_is e in
      record {
        support = is;
        only_support = λ r s. one_support o laws t lawful G e r (support_of o t e) s is;
        holds = λ fe out l q. least_holding ring all e fe out l ((subst (SupportIs o t G e) q is).1 out);
        held_by_none = λ fe out q. none_holding ring all e fe out ((subst (SupportIs o t G e) q is fe).0 out);
        lacks = λ fe own l q. least_lacking ring all e fe own l ((subst (SupportIs o t G e) q is).2 own);
        lacked_by_none = λ fe own q. none_lacking ring all e fe own ((subst (SupportIs o t G e) q is fe).1 own);
      }
