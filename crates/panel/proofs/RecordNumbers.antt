-- A record on a whole panel is done or refused by 4 to 8 or 14.
use mathlib.Core.Path.{◌≡◌, refl, sym, ◌∙◌}
use mathlib.Core.Bool.{true, true≢false}
use borrow.Author.Tests.{eq-eqb}
use Rattle.panel.specs.Panel.{outcome_of, chip_at, ram_at}
use Rattle.panel.specs.Promises.{is_record_number, EveryRecordNumber}
use Rattle.sed1520.proofs.CycleNumbers.{each_number}
use Rattle.panel.proofs.WholePanel.{whole-fit}

pub every-record-number : EveryRecordNumber
unfolding outcome_of
every-record-number p whole r =
    let fit = whole-fit p whole r.chip in
    each_number (λ n. is_record_number n ≡ true) r (chip_at p r.chip) (ram_at p r.chip)
    ((
      λ wrong. absurd (true≢false (sym wrong ∙ rw (eq-eqb _ 320 fit.bytes))),
      λ _. (
        λ wrong. absurd (true≢false (sym wrong ∙ rw fit.range)),
        λ _. (λ _. refl, λ _. (λ _. refl, λ _. (λ _. refl, λ _. (λ _. refl, λ _. (λ _. refl, λ _. (λ _. refl, λ _. tt)))))),
      ),
    ))
    refl
