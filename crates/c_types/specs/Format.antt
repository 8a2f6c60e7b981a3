-- The conversions in the format of a `printf` (C99 7.19.6.1): `%d %i %ld %li %lld %lli %c`, and `%%` for a percent sign.
use Rattle.std.specs.Prelude.{ℕ, ◌+◌, ◌==◌, Bool, ◌||◌, if◌then◌else◌, [], ◌∷◌, Option, Some, None}
use Rattle.rr_base.specs.Texts.{Text}
use Rattle.c_types.specs.declared.format.Inside.{Inside}
use Rattle.c_types.specs.declared.format.Inside.TheVariants as inside

-- `d` or `i`
abbrev pub is_decimal : ℕ → Bool
is_decimal b = (b == 100) || (b == 105)

-- how many conversions there are with those so far; none where one isn't of these
abbrev pub conversions_from : Inside → ℕ → Text → Option ℕ
conversions_from inside.Text n [] = Some n
conversions_from inside.Text n (b ∷ bs) = if b == 37 then conversions_from inside.Percent n bs else conversions_from inside.Text n bs
conversions_from inside.Percent n [] = None
conversions_from inside.Percent n (b ∷ bs) =
    if b == 37 then conversions_from inside.Text n bs
    else (if b == 99 then conversions_from inside.Text (n + 1) bs
    else (if b == 108 then conversions_from inside.Long n bs
    else (if is_decimal b then conversions_from inside.Text (n + 1) bs else None)))
conversions_from inside.Long n [] = None
conversions_from inside.Long n (b ∷ bs) =
    if b == 108 then conversions_from inside.LongLong n bs
    else (if is_decimal b then conversions_from inside.Text (n + 1) bs else None)
conversions_from inside.LongLong n [] = None
conversions_from inside.LongLong n (b ∷ bs) = if is_decimal b then conversions_from inside.Text (n + 1) bs else None

-- each conversion wants one further argument, a whole number
abbrev pub conversions : Text → Option ℕ
conversions text = conversions_from inside.Text 0 text
