-- `repaint::check_ready` meets its contract: the lines of `ready_table` one after the other.
use mathlib.Core.Path.{sym}
use mathlib.Core.List.{List, []}
use Rattle.basics.specs.Table.{Cause, left_then_right}
use Rattle.basics.specs.Verdict.{verdict}
use Rattle.basics.proofs.Refusals.{failed-with, either-refuses, either-passes, either-lines}
use Rattle.basics.specs.declared.refusal.Refusal.TheVariants.{InModify}
use Rattle.sed1520.specs.declared.registers.Chip.{Chip}
use Rattle.repaint.specs.Repaint.{shows_no_ram, wrong_line, chips_verdict}
use Rattle.repaint.proofs.check_ready.Goals as goal

-- the lines of the table from each of its numbers on
module _ (left right : Chip) where
  abbrev from-12 : List Cause
  from-12 = left_then_right 12 left.modify right.modify []

  abbrev from-11 : List Cause
  from-11 = left_then_right 11 (wrong_line left) (wrong_line right) from-12

  abbrev from-10 : List Cause
  from-10 = left_then_right 10 left.duty_32 right.duty_32 from-11

  abbrev from-9 : List Cause
  from-9 = left_then_right 9 (shows_no_ram left) (shows_no_ram right) from-10

pub returns-in_err-check_range : goal.returns-in_err-check_range
unfolding chips_verdict
returns-in_err-check_range c =
    rw (failed-with _ c.from_residual.ensures.1)
    (sym (either-refuses verdict (verdict 0 254) (from-9 c.args.chips.left c.args.chips.right) _ _ _ (sym c.in_err-check_range.ensures)))

pub returns-in_err-of_either : goal.returns-in_err-of_either
unfolding chips_verdict
returns-in_err-of_either c =
    let chips = c.args.chips in
    let range = either-passes _ _ _ (sym c.in_ok-check_range.ensures) in
    rw (failed-with _ c.from_residual-in_err-of_either.ensures.1, range.0, range.1)
    (sym (either-refuses verdict (verdict 0 254) (from-10 chips.left chips.right) _ _ _
    (sym (rw (c.shows_no_ram.ensures, c.shows_no_ram-2.ensures) at c.in_err-of_either.ensures))))

pub returns-in_err-of_either-2 : goal.returns-in_err-of_either-2
unfolding chips_verdict
returns-in_err-of_either-2 c =
    let chips = c.args.chips in
    let range = either-passes _ _ _ (sym c.in_ok-check_range.ensures) in
    let shows = either-passes _ _ _ (sym (rw (c.shows_no_ram.ensures, c.shows_no_ram-2.ensures) at c.in_ok-of_either.ensures)) in
    rw (failed-with _ c.from_residual-in_err-of_either-2.ensures.1, range.0, range.1, shows.0, shows.1)
    (sym (either-refuses verdict (verdict 0 254) (from-11 chips.left chips.right) _ _ _ (sym c.in_err-of_either-2.ensures)))

pub returns-in_err-of_either-3 : goal.returns-in_err-of_either-3
unfolding chips_verdict
returns-in_err-of_either-3 c =
    let chips = c.args.chips in
    let range = either-passes _ _ _ (sym c.in_ok-check_range.ensures) in
    let shows = either-passes _ _ _ (sym (rw (c.shows_no_ram.ensures, c.shows_no_ram-2.ensures) at c.in_ok-of_either.ensures)) in
    let duty = either-passes _ _ _ (sym c.in_ok-of_either-2.ensures) in
    rw (failed-with _ c.from_residual-in_err-of_either-3.ensures.1, range.0, range.1, shows.0, shows.1, duty.0, duty.1)
    (sym (either-refuses verdict (verdict 0 254) (from-12 chips.left chips.right) _ _ _
    (sym (rw (c.wrong_line.ensures, c.wrong_line-2.ensures) at c.in_err-of_either-3.ensures))))

pub returns : goal.returns
unfolding chips_verdict
returns c =
    let range = either-passes _ _ _ (sym c.in_ok-check_range.ensures) in
    let shows = either-passes _ _ _ (sym (rw (c.shows_no_ram.ensures, c.shows_no_ram-2.ensures) at c.in_ok-of_either.ensures)) in
    let duty = either-passes _ _ _ (sym c.in_ok-of_either-2.ensures) in
    let line = either-passes _ _ _ (sym (rw (c.wrong_line.ensures, c.wrong_line-2.ensures) at c.in_ok-of_either-3.ensures)) in
    rw (c.of_either-4.ensures, range.0, range.1, shows.0, shows.1, duty.0, duty.1, line.0, line.1)
    (sym (either-lines InModify c.args.chips.left.modify c.args.chips.right.modify [] (verdict 0 254)))
