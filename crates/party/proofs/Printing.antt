-- A line and its end, in a buffer with room for them.
-- Assumes nothing.
use Rattle.std.proofs.Common.{◌≡◌, ℕ, ◌+◌, ◌<◌, refl, List, [], ◌∷◌, ◌++◌, arith, length, take, drop, set, ap, sym, ◌∙◌, take_at, length-append, length-drop, le-leb}
use Rattle.std.proofs.lemmas.List.{take_more_set}
use Rattle.lines.specs.Lines.{put_length, put_front}
use Rattle.output.specs.Output.{newline}

module _ (l old new : List ℕ) (n : ℕ) (fits : length l < length old) (p : n ≡ put_length l old) (q : new ≡ put_front l old) where
  pub line_size : n ≡ length l
  unfolding put_length
  line_size = p ∙ rw (le-leb (length l) (length old) (omega arith)) refl

  there : new ≡ l ++ drop (length l) old
  unfolding put_front
  there = q ∙ rw (le-leb (length l) (length old) (omega arith)) refl

  pub line_out : take (n + 1) (set new n newline) ≡ l ++ newline ∷ []
  line_out =
      let long = ap length there ∙ length-append l (drop (length l) old) in
      take_more_set new n newline (omega (arith, line_size, long, fits, length-drop (length l) old))
      ∙ ap (λ front. front ++ newline ∷ []) (ap (take n) there ∙ take_at l (drop (length l) old) n (sym line_size))
