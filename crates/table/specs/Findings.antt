-- Findings and supports.
use Rattle.std.specs.Prelude.{◌≡◌, ℕ, zero, suc, Bool, true, cond, not, ◌&&◌, ◌||◌, T, ◌⊎◌, Some, None, Option, ◌==◌}
use Rattle.price.specs.Kind.{Operations}
use Rattle.spanning.specs.Joined.{Spans}
use Rattle.spanning.specs.Sets.{with_link, without_link}
use Rattle.table.specs.declared.verdicts.Finding.{Finding}
use Rattle.table.specs.declared.verdicts.Finding.TheVariants as finding
use Rattle.table.specs.Ranks.{ends, link_count, kept, free, before}
use Rattle.table.specs.Table.{Table}
use Rattle.table.specs.Trees.{cost_of, OnPathOf, is_spanned, shown}
use Rattle.table.specs.Verdicts.{Fitting, lowest}

abbrev pub finding_number : Finding → ℕ
finding_number finding.Out = 0
finding_number finding.Open = 1
finding_number finding.Forced = 2

-- out: in no fitting tree; forced: in every one; open: in some but not all
abbrev pub FindingIs : {K : Type 0} → Operations K → Table K → K → ℕ → Finding → Type 0
FindingIs o t budget e finding.Out = (X : ℕ → Bool) → Fitting o t budget X → T (X e) → ⊥
FindingIs o t budget e finding.Open = ((X : ℕ → Bool) × Fitting o t budget X × T (X e)) × ((X : ℕ → Bool) × Fitting o t budget X × (T (X e) → ⊥))
FindingIs o t budget e finding.Forced = (X : ℕ → Bool) → Fitting o t budget X → T (X e)

-- Supports in a tree X.
module _ {K : Type 0} (o : Operations K) (t : Table K) (X : ℕ → Bool) where
  -- a free link on the path between the ends of e
  abbrev pub LooseOnPath : ℕ → ℕ → Type 0
  LooseOnPath e f = T (free t f) × OnPathOf t X e f

  -- a free link outside X that rejoins the two halves which X without e leaves
  abbrev pub LooseRejoins : ℕ → ℕ → Type 0
  LooseRejoins e f = T (free t f) × (T (X f) → ⊥) × (Spans (ends t) (without_link X e) f → ⊥)

  -- the last-ranked free link on the path between the ends of e
  pub record LastOf (e l : ℕ) : Type 0 where
    pub on_path : LooseOnPath e l
    pub last : (f : ℕ) → LooseOnPath e f → (f ≡ l) ⊎ T (before o t f l)

  -- the first-ranked free link outside X that rejoins the halves
  pub record FirstOf (e l : ℕ) : Type 0 where
    pub rejoins : LooseRejoins e l
    pub first : (f : ℕ) → LooseRejoins e f → (f ≡ l) ⊎ T (before o t l f)

  -- The support of a link: of a free link outside X the last-ranked free link on its path, of a free link in X the first-ranked that
  -- rejoins; none where there is no such link, and of a kept or barred link.
  abbrev pub SupportIs : ℕ → Option ℕ → Type 0
  SupportIs e (Some l) = T (free t e) × ((T (X e) → ⊥) → LastOf e l) × (T (X e) → FirstOf e l)
  SupportIs e None = T (free t e) → ((T (X e) → ⊥) → (f : ℕ) → LooseOnPath e f → ⊥) × (T (X e) → (f : ℕ) → LooseRejoins e f → ⊥)

-- every number below n passes a test
abbrev pub every : ℕ → (ℕ → Bool) → Bool
every zero P = true
every (suc n) P = every n P && P n

-- the same, by computation, in the tree shown
module _ {K : Type 0} (o : Operations K) (t : Table K) where
  abbrev pub is_on_path : ℕ → ℕ → Bool
  is_on_path e f = free t f && (shown o t f && (is_spanned t (shown o t) e && not (is_spanned t (without_link (shown o t) f) e)))

  abbrev pub does_rejoin : ℕ → ℕ → Bool
  does_rejoin e f = free t f && (not (shown o t f) && not (is_spanned t (without_link (shown o t) e) f))

  abbrev pub last_on_path : ℕ → Option ℕ
  last_on_path e = lowest (link_count t) (λ l. is_on_path e l && every (link_count t) (λ f. not (is_on_path e f) || (f == l || before o t f l)))

  abbrev pub first_to_rejoin : ℕ → Option ℕ
  first_to_rejoin e = lowest (link_count t) (λ l. does_rejoin e l && every (link_count t) (λ f. not (does_rejoin e f) || (f == l || before o t l f)))

  abbrev pub support_of : ℕ → Option ℕ
  support_of e = cond (free t e) (cond (shown o t e) (first_to_rejoin e) (last_on_path e)) None

  -- the tree shown with one link in place of another, if there is one
  abbrev pub exchanged : ℕ → ℕ → ℕ → Bool
  exchanged gone come = with_link (without_link (shown o t) gone) come

  abbrev pub open_or : K → Finding → Option ℕ → (ℕ → ℕ → Bool) → Finding
  open_or budget other None tree = other
  open_or budget other (Some l) tree = cond (o.not_above (cost_of o t (tree l)) budget) finding.Open other

  -- the finding of a link where the tree shown fits
  abbrev pub finding_of : K → ℕ → Finding
  finding_of budget e =
      cond (kept t e) finding.Forced (cond (free t e) (cond (shown o t e) (open_or budget finding.Forced (first_to_rejoin e) (λ g. exchanged e g)) (open_or budget finding.Out (last_on_path e) (λ l. exchanged l e))) finding.Out)
