-- Cells that have the widths and denominators of their rows' records. Assumes nothing.
use mathlib.Core.Path.{◌≡◌, refl}
use mathlib.Core.List.{List, [], ◌∷◌, ◌++◌}
use Prim.Native.Nat.{ℕ, zero, suc}
use lib.ListN.{length}
use Rattle.circuit.specs.Literals.{Lit}
use Rattle.sheet.specs.declared.Record.{Record}
use Rattle.sheet.specs.Acceptance.{record_at}
use Rattle.sheet.specs.Steps.{Cell, cell, cell_at}

-- a row's cell has its record's width and denominator
pub record Fit (r : Record) (c : Cell) : Type 0 where
  pub wide : length c.literals ≡ r.width
  pub under : r.denominator ≡ c.denominator

-- a Boolean has one literal
pub fit_truth : {l : Lit} {first slots : ℕ} → Fit (record { sort = 0; width = 1; denominator = 1; first = first; slots = slots }) (cell (l ∷ []) 1)
fit_truth = record { wide = refl; under = refl }

abbrev pub FitAll : List Record → List Cell → Type 0
FitAll [] [] = Unit {0}
FitAll [] (c ∷ cs) = ⊥
FitAll (r ∷ rs) [] = ⊥
FitAll (r ∷ rs) (c ∷ cs) = Fit r c × FitAll rs cs

pub fit_snoc : (rs : List Record) (cs : List Cell) (r : Record) (c : Cell) → FitAll rs cs → Fit r c → FitAll (rs ++ r ∷ []) (cs ++ c ∷ [])
fit_snoc [] [] r c h k = (k, tt)
fit_snoc [] (d ∷ cs) r c h k = absurd h
fit_snoc (q ∷ rs) [] r c h k = absurd h
fit_snoc (q ∷ rs) (d ∷ cs) r c h k = (h.0, fit_snoc rs cs r c h.1 k)

pub fit_at : (rs : List Record) (cs : List Cell) → FitAll rs cs → (x : ℕ) → Fit (record_at rs x) (cell_at cs x)
fit_at [] [] h zero = fit_truth
fit_at [] [] h (suc x) = fit_truth
fit_at [] (c ∷ cs) h x = absurd h
fit_at (r ∷ rs) [] h x = absurd h
fit_at (r ∷ rs) (c ∷ cs) h zero = h.0
fit_at (r ∷ rs) (c ∷ cs) h (suc x) = fit_at rs cs h.1 x
