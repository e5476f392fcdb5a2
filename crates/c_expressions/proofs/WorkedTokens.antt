-- Worked texts, and their tokens.
use Rattle.std.specs.Prelude.{◌≡◌, codes, [], ◌∷◌, Some, None, refl}
use Rattle.c_expressions.specs.Tokens.{text_of, tokens_in}
use Rattle.c_expressions.specs.declared.tokens.Token.TheVariants.{Name, Number, Dot, Arrow, Left, Right, Open, Close, Star, And}

-- `(*p).next`, and blanks between tokens
signs : tokens_in (codes "(*p) .next") ≡ Some (Open ∷ Star ∷ Name (text_of (codes "p")) ∷ Close ∷ Dot ∷ Name (text_of (codes "next")) ∷ [])
signs = refl

-- a word is as long as it can be: `a_1` is one name, and `12` one number
words : tokens_in (codes "a_1[12]") ≡ Some (Name (text_of (codes "a_1")) ∷ Left ∷ Number 12 ∷ Right ∷ [])
words = refl

-- a blank parts words
parted : tokens_in (codes "a 1") ≡ Some (Name (text_of (codes "a")) ∷ Number 1 ∷ [])
parted = refl

-- an arrow, and the sign of a number: it is in two's complement
leads : tokens_in (codes "p->x[-1]") ≡ Some (Name (text_of (codes "p")) ∷ Arrow ∷ Name (text_of (codes "x")) ∷ Left ∷ Number 0xFFFFFFFFFFFFFFFF ∷ Right ∷ [])
leads = refl

-- hexadecimal digits
hexadecimal : tokens_in (codes "&a[0x1F]") ≡ Some (And ∷ Name (text_of (codes "a")) ∷ Left ∷ Number 31 ∷ Right ∷ [])
hexadecimal = refl

-- the greatest number, and one more
greatest : tokens_in (codes "18446744073709551615") ≡ Some (Number 0xFFFFFFFFFFFFFFFF ∷ [])
greatest = refl

too_large : tokens_in (codes "18446744073709551616") ≡ None
too_large = refl

-- what is no token: a sum, a minus that stands alone, letters behind a number, `0x` without digits
sum : tokens_in (codes "a+b") ≡ None
sum = refl

minus : tokens_in (codes "a - 1") ≡ None
minus = refl

letters : tokens_in (codes "1a") ≡ None
letters = refl

no_digits : tokens_in (codes "0x") ≡ None
no_digits = refl
