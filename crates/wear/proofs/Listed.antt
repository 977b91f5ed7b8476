-- The text of a replay's wear: at most 13,929 bytes long.
use Prim.Native.Nat.{ℕ, ◌≤◌}
use native.Mathlib.Omega.{arith}
use mathlib.Core.Path.{◌≡◌}
use mathlib.Core.List.{List}
use lib.ListN.{length, replicate, length-append}
use Rattle.basics.specs.Counts.{total}
use Rattle.basics.proofs.Lists.{joined-bound}
use Rattle.basics.proofs.Tests.{when}
use Rattle.sed1520.specs.Chip.{fresh}
use Rattle.sed1520.specs.declared.registers.Chip.{Chip}
use Rattle.panel.specs.Panel.{image_length, as_panel}
use Rattle.trace.specs.Replay.{replay_outcome}
use Rattle.trace.specs.Wear.{with_wear, replay_with_wear}
use Rattle.trace.specs.declared.Replayed.{Replayed}
use Rattle.console.specs.Puts.{Puts}
use Rattle.console.specs.declared.text.Text.{Text}
use Rattle.console.specs.Start.{start, blank_answers}
use Rattle.console.specs.Text.{refused_before, end_line}
use Rattle.console.proofs.Digits.{number_bound, end-bound}
use Rattle.console.proofs.Puts.{more}
use Rattle.wear.specs.Text.{count_at, next_count, page_line, chip_lines, sum_line, wear_lines, wear_text, program_text}

page-bound : (wear : List ℕ) (chip page : ℕ) → length (page_line wear chip page) ≤ 1727
unfolding page_line
page-bound wear chip page =
    let counts = joined-bound (next_count wear chip page) 21 (λ column. omega (arith, number_bound (count_at wear chip page column))) 0 80 in
    simp length-append (omega (arith, counts, number_bound chip, number_bound page))

chip-bound : (wear : List ℕ) (chip : ℕ) → length (chip_lines wear chip) ≤ 6908
chip-bound wear chip = omega (arith, joined-bound (page_line wear chip) 1727 (page-bound wear chip) 0 4)

sum_bound : (wear : List ℕ) → length (sum_line wear) ≤ 25
unfolding sum_line
sum_bound wear = simp length-append (omega (arith, number_bound (total wear)))

lines-bound : (number : ℕ) (wear : List ℕ) → length (wear_lines number wear) ≤ 13841
unfolding wear_lines
lines-bound number wear =
    when (λ (lines : List ℕ). length lines ≤ 13841) (refused_before number) (λ _. omega arith)
    (λ _. simp length-append (omega (arith, chip-bound wear 0, chip-bound wear 1, sum_bound wear)))

pub text-bound : (trace : List ℕ) → length (program_text trace) ≤ 13929
unfolding program_text wear_text
text-bound trace =
    let w = replay_with_wear start trace blank_answers (replicate image_length 0) in
    let a = w.outcome.answer in
    simp length-append
    (omega (arith, lines-bound a.number w.wear, end-bound a.number a.place a.compared a.differing))

-- the lines of the wear that a replay on fresh chips over RAM all 0 left, then its end line
pub listed : (trace : List ℕ) {ram' answers' wear' : List ℕ} {left right : Chip} {done : Replayed} {t u v : Text}
    → left ≡ fresh → right ≡ fresh
    → with_wear (replay_outcome done ram' answers') wear'
    ≡ replay_with_wear (as_panel left right (replicate image_length 0)) trace blank_answers (replicate image_length 0)
    → Puts t (wear_lines done.tally.number wear') u
    → Puts u (end_line done.tally.number done.tally.place done.tally.compared done.tally.differing) v
    → Puts t (program_text trace) v
unfolding program_text wear_text
listed trace is-left is_right ends lines last =
    let same = rw (is-left, is_right) at ends in
    rw (← same) (more lines last)
