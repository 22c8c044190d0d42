-- The numbers that decimal words write.
use Rattle.std.proofs.Common.{◌≡◌, ℕ, zero, suc, ◌^◌, ◌<◌, true, false, List, [], ◌∷◌, length, get_or, is_ok, Ok, Err, decimal, Result, sym, refl, ap, ◌∙◌, arith, rules, MatchOption}
use Rattle.std.specs.Result.{result_ok}
use Rattle.std.specs.Str.Parse.{AllDigits, digits_value, ParsesUnsigned}
use Rattle.std.proofs.lemmas.Str.Parse.{IsNumeralModel, numerals_by_value, tells_digits, parse_plain, not_in_digits}
use Rattle.std.proofs.lemmas.Fmt.{parse-decimal, decimal-digits_value, decimal_digit, decimal_nonempty, digits_decimal, first_decimal}

own : IsNumeralModel (AllDigits 10) (digits_value 10)
own = numerals_by_value (AllDigits 10) tells_digits

-- an error is no value
no_ok : (E : Type 0) (r : Result ℕ E) (n : ℕ) → is_ok r ≡ false → r ≡ Ok n → ⊥
no_ok E r n bad same = let no : is_ok r ≡ true = ap is_ok same in search rules

-- without a plus and a needless zero in front, parse reads just what is written
pub reads_decimal :
    (E : Type 0) (bs : List ℕ) (r : Result ℕ E) → ParsesUnsigned 64 10 bs r → (get_or bs 0 0 ≡ 43 → ⊥)
    → (get_or bs 0 0 ≡ 48 → length bs ≡ 1)
    → MatchOption (result_ok r) ((n : ℕ) → n < 2 ^ 64 → bs ≡ decimal n → ⊥) (λ n. bs ≡ decimal n)
reads_decimal E bs (Ok x) h plus zeros =
    let p = parse_plain own {E = E} 64 bs (Ok x) h plus in
    sym (ap decimal p.1 ∙ decimal-digits_value own bs p.0.0 p.0.1 zeros p.0.2)
reads_decimal E bs (Err e) h plus zeros = λ n small same. no_ok E (Err e) n refl (parse-decimal {E = E} 64 n bs (Err e) small small same h)

-- no number is written with a plus in front
pub no_plus : (bs : List ℕ) (n : ℕ) → n < 2 ^ 64 → get_or bs 0 0 ≡ 43 → bs ≡ decimal n → ⊥
no_plus bs n small plus same =
    not_in_digits own (decimal n) 43 (digits_decimal own n small) (λ i. omega (arith, i)) 0 (decimal_nonempty n small)
    (ap (λ ds. get_or ds 0 0) (sym same) ∙ plus)

-- none with a zero in front and more behind it
pub no_zero : (bs : List ℕ) (n : ℕ) → n < 2 ^ 64 → get_or bs 0 0 ≡ 48 → 1 < length bs → bs ≡ decimal n → ⊥
no_zero bs zero small front long same = omega (arith, long, ap length (same ∙ decimal_digit 0 (omega arith)))
no_zero bs (suc n) small front long same =
    omega (arith, front, first_decimal (suc n) (omega arith) small, ap (λ ds. get_or ds 0 0) same)

-- what has a first element is not empty
pub some_first : (xs : List ℕ) (x : ℕ) → 0 < x → get_or xs 0 0 ≡ x → 0 < length xs
some_first [] x pos is = omega (arith, pos, is)
some_first (y ∷ ys) x pos is = search rules
