-- `setting_lines::put_setting` meets its contract: each kind of an arm has the arm's piece. Assumes nothing.
use mathlib.Core.Path.{◌≡◌, refl, sym, ◌∙◌}
use mathlib.Core.Logic.{inl, inr}
use mathlib.Core.Bool.{false}
use mir.Facts.{to_z-of_z}
use Rattle.sheet.specs.declared.Kind.{Kind}
use Rattle.sheet.specs.declared.Kind.TheVariants.{BooleanUnknown, NaturalUnknown, IntegerUnknown}
use Rattle.sheet.specs.Rows.{uses, is_unknown}
use Rattle.sheet.specs.Values.{row_val}
use Rattle.print.proofs.Puts.{put_none}
use Rattle.setting_lines.proofs.Rows.{piece_here}
use Rattle.setting_lines.proofs.put_setting.Goals as goal

-- no other kind is an unknown
none_unknown : (k : Kind) → (k ≡ BooleanUnknown → ⊥) → (k ≡ NaturalUnknown → ⊥) → (k ≡ IntegerUnknown → ⊥) → is_unknown (uses k) ≡ false
none_unknown BooleanUnknown b n i = absurd (b refl)
none_unknown NaturalUnknown b n i = absurd (n refl)
none_unknown IntegerUnknown b n i = absurd (i refl)
none_unknown _ b n i = refl

pub returns-in_default : goal.returns-in_default
returns-in_default c =
    rw (piece_here _ c.args.numerators.now _ _ c.requires.table_room c.requires.used_is, sym c.read_at.ensures ∙ c.in_default.is) (put_none _ _)

pub returns-in-BooleanUnknown : goal.returns-in-BooleanUnknown
unfolding row_val
returns-in-BooleanUnknown c =
    let e = rw (to_z-of_z {z = c.value_at-v.result} (record { sfits = c.value_at-v.type_inv }), c.value_at-v.ensures) at c.put_setting_line.ensures in
    rw (piece_here _ c.args.numerators.now _ _ c.requires.table_room c.requires.used_is, sym c.read_at.ensures ∙ c.in-Ok.is, c.in-BooleanUnknown.is) e

pub returns-in-NaturalUnknown : goal.returns-in-NaturalUnknown
unfolding row_val
returns-in-NaturalUnknown c =
    let e = rw (to_z-of_z {z = c.value_at-v.result} (record { sfits = c.value_at-v.type_inv }), c.value_at-v.ensures, c.from-z.ensures) at c.put_setting_line-in-NaturalUnknown.ensures in
    rw (piece_here _ c.args.numerators.now _ _ c.requires.table_room c.requires.used_is, sym c.read_at.ensures ∙ c.in-Ok.is)
    (elim c.in-NaturalUnknown.is [ inl k ↦ rw k e | inr k ↦ rw k e ])

pub returns-in_default-kind : goal.returns-in_default-kind
returns-in_default-kind c =
    let no = c.in_default-kind in
    rw (piece_here _ c.args.numerators.now _ _ c.requires.table_room c.requires.used_is, sym c.read_at.ensures ∙ c.in-Ok.is, none_unknown _ no.not-BooleanUnknown no.not-NaturalUnknown no.not-IntegerUnknown)
    (put_none _ _)
