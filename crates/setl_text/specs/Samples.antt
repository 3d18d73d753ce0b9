-- Worked rows of texts and denotations.
use Rattle.std.specs.Prelude.{◌≡◌, ℕ, zero, suc, pos, negsuc, true, false, List, [], ◌∷◌, codes, Some, None, refl}
use Rattle.std.specs.Fmt.{digits}
use Rattle.setl_value.specs.Datum.{bool, int, text, atom, set_of, tuple_of}
use Rattle.setl_text.specs.Texts.{print_line, inner_text}
use Rattle.setl_text.specs.Reading.{Denotes, AtEnd, NotForm, TooWide, TooDeep, read_denotation}

-- `{1 2 3} [1 * 2] it's`
a_line : print_line (Some (set_of (int (pos 1) ∷ int (pos 2) ∷ int (pos 3) ∷ [])) ∷ Some (tuple_of (Some (int (pos 1)) ∷ None ∷ Some (int (pos 2)) ∷ [])) ∷ Some (text (codes "it's")) ∷ []) ≡ codes "{1 2 3} [1 * 2] it's\n"
unfolding digits
a_line = refl

an_inner_text : inner_text (set_of (bool true ∷ int (negsuc 6) ∷ text (codes "it's") ∷ atom 7 ∷ [])) ≡ codes "{true -7 'it''s' #7}"
unfolding digits
an_inner_text = refl

nested : read_denotation (codes " {1 [2 'a']} 7") ≡ Denotes (Some (set_of (int (pos 1) ∷ tuple_of (Some (int (pos 2)) ∷ Some (text (codes "a")) ∷ []) ∷ []))) (codes " 7")
nested = refl

repeats_and_commas : read_denotation (codes "{,2,,1,2}") ≡ Denotes (Some (set_of (int (pos 1) ∷ int (pos 2) ∷ []))) []
repeats_and_commas = refl

om_at_the_end : read_denotation (codes "[* 1 * *]*") ≡ Denotes (Some (tuple_of (None ∷ Some (int (pos 1)) ∷ []))) (codes "*")
om_at_the_end = refl

om_alone : read_denotation (codes "* 1") ≡ Denotes None (codes " 1")
om_alone = refl

a_string : read_denotation (codes "'it''s'x") ≡ Denotes (Some (text (codes "it's"))) (codes "x")
a_string = refl

two_denotations : read_denotation (codes "12true") ≡ Denotes (Some (int (pos 12))) (codes "true")
two_denotations = refl

any_case : read_denotation (codes "fAlSe1") ≡ Denotes (Some (bool false)) (codes "1")
any_case = refl

one_run_of_letters : read_denotation (codes "truefalse") ≡ NotForm
one_run_of_letters = refl

only_blanks : read_denotation (codes " \n ") ≡ AtEnd
only_blanks = refl

ends_inside : read_denotation (codes "{1 [2") ≡ NotForm
ends_inside = refl

a_comma_outside : read_denotation (codes ",1") ≡ NotForm
a_comma_outside = refl

om_in_a_set : read_denotation (codes "{1 *}") ≡ NotForm
om_in_a_set = refl

least : read_denotation (codes "-170141183460469231731687303715884105728") ≡ Denotes (Some (int (negsuc 170141183460469231731687303715884105727))) []
least = refl

too_wide : read_denotation (codes "170141183460469231731687303715884105728") ≡ TooWide
too_wide = refl

-- n opening brackets
abbrev opened_squares : ℕ → List ℕ
opened_squares zero = []
opened_squares (suc n) = 91 ∷ opened_squares n

too_deep : read_denotation (opened_squares 501) ≡ TooDeep
too_deep = refl

deep_enough : read_denotation (opened_squares 500) ≡ NotForm
deep_enough = refl
