-- Bytes by their places, and numbers of two bytes.
use Rattle.std.proofs.Common.{◌≡◌, ℕ, zero, suc, ◌+◌, ◌*◌, ◌/◌, ◌%◌, ◌<◌, ◌≤◌, List, [], ◌∷◌, ◌++◌, length, get_or, take, drop, sym, refl, ap, ◌∙◌, add-zero, arith}
use Rattle.std.proofs.lemmas.List.{drop_more, get_or-take, append-nil}
use Rattle.link_file.specs.Format.{record_length, bytes16, four}

-- n bytes from place i on
abbrev pub cells : List ℕ → ℕ → ℕ → List ℕ
cells bs i zero = []
cells bs i (suc n) = get_or bs i 0 ∷ cells bs (i + 1) n

pub cells_drop : (bs : List ℕ) (n i : ℕ) → i + n ≤ length bs → drop i bs ≡ cells bs i n ++ drop (i + n) bs
cells_drop bs zero i h = ap (λ m. drop m bs) (sym (add-zero i))
cells_drop bs (suc n) i h =
    let e : i + 1 + n ≡ i + suc n = omega arith in
    let k : i < length bs = omega arith in
    let m : i + 1 + n ≤ length bs = omega arith in
    drop_more bs i 0 k
    ∙ ap (λ t. get_or bs i 0 ∷ t) (cells_drop bs n (i + 1) m ∙ ap (λ j. cells bs (i + 1) n ++ drop j bs) e)

-- a function that reads no further than a record's end is the same of the record alone
cells_cut : (bs : List ℕ) (n i k : ℕ) → i + n ≤ k → cells (take k bs) i n ≡ cells bs i n
cells_cut bs zero i k h = refl
cells_cut bs (suc n) i k h =
    let e : get_or (take k bs) i 0 ≡ get_or bs i 0 = get_or-take k bs i 0 (omega arith) in
    let t : cells (take k bs) (i + 1) n ≡ cells bs (i + 1) n = cells_cut bs n (i + 1) k (omega arith) in
    cc

pub record_alone : {X : Type 0} (F : List ℕ → X) → ((bs : List ℕ) → F bs ≡ F (cells bs 0 record_length)) → (bs : List ℕ) → F (take record_length bs) ≡ F bs
record_alone F reads bs =
    reads (take record_length bs) ∙ ap F (cells_cut bs record_length 0 record_length (omega arith)) ∙ sym (reads bs)

-- two bytes and their number
pub pair_of_number : (a b : ℕ) → a < 256 → b < 256 → bytes16 (a * 256 + b) ≡ a ∷ b ∷ []
pair_of_number a b p q =
    let e : (a * 256 + b) / 256 % 256 ≡ a = omega arith in
    let d : (a * 256 + b) % 256 ≡ b = omega arith in
    rw (e, d)

pub number_of_pair : (n : ℕ) → n < 65536 → (n / 256 % 256) * 256 + n % 256 ≡ n
number_of_pair n h = omega arith

-- four bytes in front
pub four_in_front : (xs ys : List ℕ) → length xs ≡ 4 → four (xs ++ ys) 0 ≡ xs
four_in_front [] ys h = absurd (omega (arith, h))
four_in_front (a ∷ []) ys h = absurd (omega (arith, h))
four_in_front (a ∷ b ∷ []) ys h = absurd (omega (arith, h))
four_in_front (a ∷ b ∷ c ∷ []) ys h = absurd (omega (arith, h))
four_in_front (a ∷ b ∷ c ∷ d ∷ []) ys h = refl
four_in_front (a ∷ b ∷ c ∷ d ∷ e ∷ xs) ys h = absurd (omega (arith, h))

pub four_whole : (xs : List ℕ) → length xs ≡ 4 → four xs 0 ≡ xs
four_whole xs h = ap (λ t. four t 0) (sym (append-nil xs)) ∙ four_in_front xs [] h
