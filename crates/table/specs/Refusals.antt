-- The numbers that acceptance refuses by. Assumes nothing.
use Rattle.std.specs.Prelude.{◌≡◌, List, ℕ, ◌≤◌, ◌<◌}
use Rattle.sheet.specs.declared.Reason.{Reason}
use Rattle.sheet.specs.Acceptance.{refusal_number, refused, accept}

-- 1 to 10, and no other
abbrev pub Refusals : Type 0
Refusals = (table : List ℕ) (reason : Reason) (place : ℕ) → accept table ≡ refused reason place → (0 < refusal_number reason) × (refusal_number reason ≤ 10)
