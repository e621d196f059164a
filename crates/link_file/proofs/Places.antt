-- Parts of a buffer that are overwritten.
use Rattle.std.proofs.Common.{◌≡◌, ℕ, ◌+◌, ◌<◌, ◌≤◌, true, false, cond, leb, List, [], ◌++◌, length, get_or, take, drop, Some, Ok, Err, sym, ap, ◌∙◌, append_assoc, arith}
use borrow.Rule.Slice.PartMut.{put_mid}
use Rattle.std.specs.List.{slice_get, flat_map}
use Rattle.table.specs.Buffers.{written_length, written_to}
use Rattle.table.specs.declared.refusals.PlanFault.TheVariants.{ShortBuffer}
use Rattle.std.proofs.lemmas.List.{drop-drop, drop_at, take_at, take_more, flat_map_more}
use Rattle.std.proofs.lemmas.Option.{slice_get_within, get_or_from_slice_get}

-- the pieces of one element more
joined_take : {X : Type 0} (h : X → List ℕ) (xs : List X) (i : ℕ) (x : X) → slice_get xs i ≡ Some x → flat_map h (take (i + 1) xs) ≡ flat_map h (take i xs) ++ h x
joined_take h xs i x e =
    ap (flat_map h) (take_more xs i x (slice_get_within xs i x e))
    ∙ sym (flat_map_more h [] (take i xs) (get_or xs i x))
    ∙ ap (λ y. flat_map h (take i xs) ++ h y) (get_or_from_slice_get xs i x x e)

-- the pieces of the first elements at the front of a buffer, and one more written after them by `copy_from_slice`
pub next_piece : {X : Type 0} (h : X → List ℕ) (xs : List X) (i : ℕ) (x : X) (piece old out : List ℕ) (at k n : ℕ) → slice_get xs i ≡ Some x → piece ≡ h x → length (flat_map h (take i xs)) ≡ at → n ≡ k → out ≡ flat_map h (take i xs) ++ drop at old → put_mid at n out piece ≡ flat_map h (take (i + 1) xs) ++ drop (at + k) old
next_piece h xs i x piece old out at k n item same long part e =
    let pieces = flat_map h (take i xs) in
    let before : take at out ≡ pieces = ap (take at) e ∙ take_at pieces (drop at old) at long in
    let after : drop k (drop at out) ≡ drop (at + k) old =
    ap (λ t. drop k (drop at t)) e ∙ ap (drop k) (drop_at pieces (drop at old) at long) ∙ drop-drop k at old in
    ap (λ m. take at out ++ (piece ++ drop m (drop at out))) part
    ∙ ap (λ t. t ++ (piece ++ drop k (drop at out))) before
    ∙ ap (λ t. pieces ++ (piece ++ t)) after
    ∙ sym (append_assoc pieces piece (drop (at + k) old))
    ∙ ap (λ t. (pieces ++ t) ++ drop (at + k) old) same
    ∙ ap (λ t. t ++ drop (at + k) old) (sym (joined_take h xs i x item))

-- bytes that do not go into a buffer, and bytes that do
pub written_not : (bytes out : List ℕ) (n : ℕ) → length bytes ≡ n → length out < n → (Err ShortBuffer ≡ written_length bytes out) × (out ≡ written_to bytes out)
written_not bytes out n e h =
    let no_room : leb (length bytes) (length out) ≡ false = grind arith in
    (sym (ap (λ b. cond b (Ok (length bytes)) (Err ShortBuffer)) no_room), sym (ap (λ b. cond b (bytes ++ drop (length bytes) out) out) no_room))

pub written_whole : (bytes out : List ℕ) (n : ℕ) → length bytes ≡ n → n ≤ length out → (Ok n ≡ written_length bytes out) × (bytes ++ drop n out ≡ written_to bytes out)
written_whole bytes out n e h =
    let room : leb (length bytes) (length out) ≡ true = grind arith in
    (sym (ap (λ b. cond b (Ok (length bytes)) (Err ShortBuffer)) room ∙ ap Ok e), sym (ap (λ b. cond b (bytes ++ drop (length bytes) out) out) room ∙ ap (λ m. bytes ++ drop m out) e))

-- a header, and pieces at the front of what comes after it
pub header_then : (header pieces old rest new : List ℕ) (n k : ℕ) → rest ≡ drop n old → new ≡ pieces ++ drop k rest → header ++ new ≡ (header ++ pieces) ++ drop (n + k) old
header_then header pieces old rest new n k cut written =
    ap (λ t. header ++ t) (written ∙ ap (λ t. pieces ++ drop k t) cut ∙ ap (λ t. pieces ++ t) (drop-drop k n old))
    ∙ sym (append_assoc header pieces (drop (n + k) old))
