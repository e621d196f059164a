-- The lines of a table by their numbers, and its text line by line.
use Rattle.std.proofs.Common.{◌≡◌, ℕ, zero, suc, ◌+◌, ◌-◌, ◌<◌, ◌≤◌, List, [], ◌∷◌, ◌++◌, length, get_or, take, unwrap_or, ℤ, Some, None, sym, refl, ap, ◌∙◌, arith}
use Rattle.std.proofs.lemmas.List.{flat_map_more, take_more, take_all}
use Rattle.std.specs.List.{flat_map, slice_get}
use Rattle.std.specs.Option.{option_map}
use Rattle.table.specs.declared.links.Link.{Link}
use Rattle.table.specs.Table.{Table}
use Rattle.listing.specs.Lines.{link_line, link_lines, lines_of, line_of}
use Rattle.listing.specs.Whole.{table_text}

module _ {K : Type 0} (amount : K → ℤ) where
  -- a line among those of the links, which are numbered from n
  line_from : (n : ℕ) (ls : List (Link K)) (i : ℕ) → get_or (link_lines amount n ls) i [] ≡ unwrap_or (option_map (link_line amount (n + i)) (slice_get ls i)) []
  line_from n [] i = refl
  line_from n (l ∷ ls) zero = let number : n ≡ n + 0 = omega arith in cc
  line_from n (l ∷ ls) (suc i) =
      let rest = line_from (suc n) ls i in
      let number : suc n + i ≡ n + suc i = omega arith in
      cc

  length_lines : (n : ℕ) (ls : List (Link K)) → length (link_lines amount n ls) ≡ length ls
  length_lines n [] = refl
  length_lines n (l ∷ ls) = ap suc (length_lines (suc n) ls)

  module _ (code : ℕ) (t : Table K) (budget : K) where
    -- the line of a number past 0, by what the table has there
    past_head : (number i : ℕ) → 1 ≤ number → i ≡ number - 1 → line_of amount code t budget number ≡ unwrap_or (option_map (link_line amount i) (slice_get t.links i)) []
    past_head number i h e =
        let next : number ≡ suc i = omega arith in
        let here : 0 + i ≡ i = omega arith in
        ap (line_of amount code t budget) next
        ∙ line_from 0 t.links i
        ∙ ap (λ k. unwrap_or (option_map (link_line amount k) (slice_get t.links i)) []) here

    pub line_of_link : (line : List ℕ) (number i : ℕ) (l : Link K) → 1 ≤ number → i ≡ number - 1 → Some l ≡ slice_get t.links i → line ≡ link_line amount i l → line ≡ line_of amount code t budget number
    line_of_link line number i l h e found same =
        same ∙ ap (λ o. unwrap_or (option_map (link_line amount i) o) []) found ∙ sym (past_head number i h e)

    pub line_of_none : (line : List ℕ) (number i : ℕ) → 1 ≤ number → i ≡ number - 1 → None ≡ slice_get t.links i → line ≡ [] → line ≡ line_of amount code t budget number
    line_of_none line number i h e found same =
        same ∙ ap (λ o. unwrap_or (option_map (link_line amount i) o) []) found ∙ sym (past_head number i h e)

    -- the lines before the one of this number, one after the other
    abbrev pub text_before : ℕ → List ℕ
    text_before number = flat_map (λ line. line) (take number (lines_of amount code t budget))

    -- a text with one line more
    pub next_text : (start before line after : List ℕ) (number : ℕ) → number ≤ length t.links → before ≡ start ++ text_before number → line ≡ line_of amount code t budget number → after ≡ before ++ line → after ≡ start ++ text_before (number + 1)
    next_text start before line after number h b l a =
        let lines = lines_of amount code t budget in
        let fewer : number < length lines = omega (arith, length_lines 0 t.links) in
        a
        ∙ ap (λ front. front ++ line) b
        ∙ ap (λ back. (start ++ text_before number) ++ back) l
        ∙ flat_map_more (λ line. line) start (take number lines) (get_or lines number [])
        ∙ ap (λ front. start ++ flat_map (λ line. line) front) (sym (take_more lines number [] fewer))

    -- the same of the last line
    pub whole_text : (start before line after : List ℕ) (number : ℕ) → number ≡ length t.links → before ≡ start ++ text_before number → line ≡ line_of amount code t budget number → after ≡ before ++ line → after ≡ start ++ table_text amount code t budget
    whole_text start before line after number h b l a =
        let lines = lines_of amount code t budget in
        let all : length lines ≤ number + 1 = omega (arith, length_lines 0 t.links) in
        next_text start before line after number (omega arith) b l a ∙ ap (λ text. start ++ flat_map (λ line. line) text) (take_all (number + 1) lines all)
