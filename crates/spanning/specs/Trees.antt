-- Trees over a closure: bases that hold the kept links and no barred one, the greedy tree, and what it is for a tree to be shown.
use Rattle.std.specs.Prelude.{◌≡◌, ℕ, ◌<◌, Bool, not, ◌&&◌, ◌||◌, T, ◌⊎◌, List, length, ◌≢◌, slice_index}
use Rattle.spanning.specs.Sets.{without_link}

-- A strict total order of the free links. None is free from n on, none is kept from n on, and none is both.
pub record Ranked (n : ℕ) (kept free : ℕ → Bool) (before : ℕ → ℕ → Bool) : Type 0 where
  pub kept_below : (k : ℕ) → T (kept k) → k < n
  pub free_below : (k : ℕ) → T (free k) → k < n
  pub apart : (k : ℕ) → T (kept k) → T (free k) → ⊥
  pub strict : (a : ℕ) → T (free a) → T (before a a) → ⊥
  pub transitive : (a b c : ℕ) → T (free a) → T (free b) → T (free c) → T (before a b) → T (before b c) → T (before a c)
  pub either : (a b : ℕ) → T (free a) → T (free b) → (a ≡ b) ⊎ (T (before a b) ⊎ T (before b a))

module _ (in_span : (ℕ → Bool) → ℕ → Bool) (kept free : ℕ → Bool) (before : ℕ → ℕ → Bool) where
  -- no link is spanned by the others
  abbrev pub Independent : (ℕ → Bool) → Type 0
  Independent X = (e : ℕ) → T (X e) → T (in_span (without_link X e) e) → ⊥

  -- kept links, and the free ones that rank before h
  abbrev pub prior : ℕ → ℕ → Bool
  prior h k = kept k || (free k && before k h)

  -- the kept links, and each free one whose ends the links before it and the kept ones do not join
  abbrev pub greedy : ℕ → Bool
  greedy k = kept k || (free k && not (in_span (prior k) k))

  -- independent, with every kept link and no barred one, and spanning every link that is not barred
  pub record Tree (X : ℕ → Bool) : Type 0 where
    pub independent : Independent X
    pub holds_kept : (k : ℕ) → T (kept k) → T (X k)
    pub usable : (k : ℕ) → T (X k) → T (kept k || free k)
    pub spans : (k : ℕ) → T (kept k || free k) → T (in_span X k)

  -- f is on the path of X between the ends of h
  abbrev pub OnPath : (ℕ → Bool) → ℕ → ℕ → Type 0
  OnPath X h f = T (X f) × T (in_span X h) × (T (in_span (without_link X f) h) → ⊥)

  -- each free link left out ranks after every free link on the path between its ends
  abbrev pub Shown : (ℕ → Bool) → Type 0
  Shown X = (h f : ℕ) → T (free h) → (T (X h) → ⊥) → T (free f) → OnPath X h f → T (before f h)

-- Two states of one link e, all else alike: the second is no worse, that is, e is now kept, or comes before at least the free links that it came before.
pub record NoWorse (e : ℕ) (kept free : ℕ → Bool) (before : ℕ → ℕ → Bool) (kept' free' : ℕ → Bool) (before' : ℕ → ℕ → Bool) : Type 0 where
  pub same_kept : (k : ℕ) → (k ≢ e) → kept k ≡ kept' k
  pub same_free : (k : ℕ) → (k ≢ e) → free k ≡ free' k
  pub same_order : (a b : ℕ) → (a ≢ e) → (b ≢ e) → before a b ≡ before' a b
  pub stays_kept : T (kept e) → T (kept' e)
  pub stays_usable : T (free e) → T (kept' e || free' e)
  pub comes_before : (h : ℕ) → (h ≢ e) → T (free h) → T (kept e || (free e && before e h)) → T (kept' e || (free' e && before' e h))

-- at most one link of X is not in Y
abbrev pub AtMostOneLeaves : (ℕ → Bool) → (ℕ → Bool) → Type 0
AtMostOneLeaves X Y = (a b : ℕ) → T (X a) → (T (Y a) → ⊥) → T (X b) → (T (Y b) → ⊥) → a ≡ b

-- Supports.
module _ (in_span : (ℕ → Bool) → ℕ → Bool) (kept free : ℕ → Bool) (before : ℕ → ℕ → Bool) where
  -- l is the last-ranked free link on the path of X between the ends of e
  pub record LastOnPath (X : ℕ → Bool) (e l : ℕ) : Type 0 where
    pub loose : T (free l)
    pub on_path : OnPath in_span kept free before X e l
    pub last : (f : ℕ) → T (free f) → OnPath in_span kept free before X e f → (f ≡ l) ⊎ T (before f l)

  -- g rejoins the two halves that X without e leaves
  abbrev pub Rejoins : (ℕ → Bool) → ℕ → ℕ → Type 0
  Rejoins X e g = T (free g) × (T (X g) → ⊥) × (T (in_span (without_link X e) g) → ⊥)

  -- g is the first-ranked free link that does so
  pub record FirstToRejoin (X : ℕ → Bool) (e g : ℕ) : Type 0 where
    pub rejoins : Rejoins X e g
    pub first : (f : ℕ) → Rejoins X e f → (f ≡ g) ⊎ T (before g f)

-- xs has the free links and no others, and each ranks before those after it
pub record Ordered (free : ℕ → Bool) (before : ℕ → ℕ → Bool) (xs : List ℕ) : Type 0 where
  pub each : (i : ℕ) → i < length xs → T (free (slice_index xs i))
  pub all : (k : ℕ) → T (free k) → (i : ℕ) × (i < length xs) × (slice_index xs i ≡ k)
  pub sorted : (i j : ℕ) → i < j → j < length xs → T (before (slice_index xs i) (slice_index xs j))
