-- Parts of the paper's judgement of a row, for the functions that judge it. Assumes nothing.
use Rattle.std.specs.Prelude.{Ok, ℕ, ◌+◌, eqb, ltb}
use Rattle.whole.specs.Tests.{if◌then◌otherwise◌}
use Rattle.circuit.specs.declared.Counts.{Counts}
use Rattle.circuit.specs.Counting.{◌⊕◌, times}
use Rattle.sheet.specs.declared.Record.{Record}
use Rattle.sheet.specs.declared.Reason.TheVariants.{LargeDenominator, TooWide}
use Rattle.sheet.specs.Acceptance.{Verdict, Plan, number_plan, comparison_plan, meeting, larger, bringing, stop◌if◌else◌, record_by}

-- the end of the judgement: 8 and 9, then the record
unfoldable pub settled : (first : ℕ) → Plan → Verdict
settled first m = stop LargeDenominator if ltb 4096 m.common else stop TooWide if ltb 48 m.widest else Ok (record { row = record_by first m; counts = m.counts })

-- a and b brought together, to a comparison (sort 0) or a number: at the larger width and so many bits more, each bit counting `bit`
unfoldable pub combined_plan : (sort wider : ℕ) (bit : Counts) (a b : Record) → Plan
combined_plan sort wider bit a b =
    (if eqb sort 0 then comparison_plan otherwise number_plan) (larger a b + wider) (meeting a b) (bringing a b ⊕ times (larger a b + wider) bit)
