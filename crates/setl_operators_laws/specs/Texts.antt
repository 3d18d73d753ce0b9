-- The text of a value is made of bytes as a string may have them.
use Rattle.std.proofs.Common.{ℕ, suc, ◌+◌, ◌<◌, ◌%◌, ◌^◌, ℤ, pos, negsuc, Bool, true, false, cond, nat_eq, List, [], ◌∷◌, arith}
use Rattle.std.specs.Fmt.{decimal, signed_decimal}
use Rattle.std.specs.List.{AllByRecursion}
use Rattle.std.proofs.lemmas.Fmt.{decimal_by_steps_wide}
use Rattle.setl_value.specs.Datum.{Datum, bool, int, text, atom, tuple, set, Parts, no_part, om_then, part_then, Elements, no_element, element_then}
use Rattle.setl_value.specs.WellFormed.{IsTextByte, IsWide, IsWellFormed, PartsAreWellFormed, ElementsAreWellFormed, IsValue}
use Rattle.setl_text.specs.Texts.{doubled, spaced, enclosed, inner_text, part_texts, element_texts, whole_text}
use Rattle.setl_operators_laws.specs.Lists.{all_append}

-- bytes as a string may have them
abbrev pub IsPlain : List ℕ → Type 0
IsPlain t = AllByRecursion IsTextByte t

-- a byte other than 10
pub plain_byte : (b : ℕ) → 10 < b → b < 256 → IsTextByte b
plain_byte b low high = (high, λ e. absurd (omega arith))

plain_digit : (n : ℕ) → n < 10 → IsPlain ((48 + n) ∷ [])
plain_digit n h = (plain_byte (48 + n) (omega arith) (omega arith), tt)

plain_decimal : (n : ℕ) → n < 10 ^ 64 → IsPlain (decimal n)
plain_decimal n h = decimal_by_steps_wide (λ n ds. IsPlain ds) plain_digit (λ n ds wide k. all_append IsTextByte ds ((48 + n % 10) ∷ []) k (plain_digit (n % 10) (omega arith))) n h

plain_signed : (z : ℤ) → IsWide z → IsPlain (signed_decimal z)
plain_signed (pos n) h = plain_decimal n (omega (arith, h))
plain_signed (negsuc n) h = (plain_byte 45 (omega arith) (omega arith), plain_decimal (suc n) (omega (arith, h)))

plain_doubled_by : (twice : Bool) (b : ℕ) (t : List ℕ) → IsTextByte b → IsPlain t → IsPlain (cond twice (39 ∷ 39 ∷ t) (b ∷ t))
plain_doubled_by true b t h k = let quote = plain_byte 39 (omega arith) (omega arith) in (quote, (quote, k))
plain_doubled_by false b t h k = (h, k)

plain_doubled : (t : List ℕ) → IsPlain t → IsPlain (doubled t)
plain_doubled [] h = tt
plain_doubled (b ∷ t) h = plain_doubled_by (nat_eq b 39) b (doubled t) h.0 (plain_doubled t h.1)

pub plain_spaced : (ts : List (List ℕ)) → AllByRecursion IsPlain ts → IsPlain (spaced ts)
plain_spaced [] h = tt
plain_spaced (t ∷ []) h = h.0
plain_spaced (t ∷ u ∷ ts) h = all_append IsTextByte t (32 ∷ spaced (u ∷ ts)) h.0 (plain_byte 32 (omega arith) (omega arith), plain_spaced (u ∷ ts) h.1)

plain_enclosed : (first last : ℕ) (t : List ℕ) → IsTextByte first → IsTextByte last → IsPlain t → IsPlain (enclosed first t last)
plain_enclosed first last t f l h = (f, all_append IsTextByte t (last ∷ []) h (l, tt))

mutual
  plain_inner : (d : Datum) → IsWellFormed d → IsPlain (inner_text d)
  plain_inner (bool true) h = (plain_byte 116 (omega arith) (omega arith), (plain_byte 114 (omega arith) (omega arith), (plain_byte 117 (omega arith) (omega arith), (plain_byte 101 (omega arith) (omega arith), tt))))
  plain_inner (bool false) h = (plain_byte 102 (omega arith) (omega arith), (plain_byte 97 (omega arith) (omega arith), (plain_byte 108 (omega arith) (omega arith), (plain_byte 115 (omega arith) (omega arith), (plain_byte 101 (omega arith) (omega arith), tt)))))
  plain_inner (int z) h = plain_signed z h
  plain_inner (text t) h = plain_enclosed 39 39 (doubled t) (plain_byte 39 (omega arith) (omega arith)) (plain_byte 39 (omega arith) (omega arith)) (plain_doubled t h)
  plain_inner (atom n) h = (plain_byte 35 (omega arith) (omega arith), plain_decimal n (omega (arith, h)))
  plain_inner (tuple ps) h = plain_enclosed 91 93 (spaced (part_texts ps)) (plain_byte 91 (omega arith) (omega arith)) (plain_byte 93 (omega arith) (omega arith)) (plain_spaced (part_texts ps) (plain_parts ps h.0))
  plain_inner (set ms) h = plain_enclosed 123 125 (spaced (element_texts ms)) (plain_byte 123 (omega arith) (omega arith)) (plain_byte 125 (omega arith) (omega arith)) (plain_spaced (element_texts ms) (plain_elements ms h.0))

  plain_parts : (ps : Parts) → PartsAreWellFormed ps → AllByRecursion IsPlain (part_texts ps)
  plain_parts no_part h = tt
  plain_parts (om_then ps) h = ((plain_byte 42 (omega arith) (omega arith), tt), plain_parts ps h)
  plain_parts (part_then d ps) h = (plain_inner d h.0, plain_parts ps h.1)

  plain_elements : (ms : Elements) → ElementsAreWellFormed ms → AllByRecursion IsPlain (element_texts ms)
  plain_elements no_element h = tt
  plain_elements (element_then d ms) h = (plain_inner d h.0, plain_elements ms h.1)

pub whole_text_is_plain : (d : Datum) → IsValue d → AllByRecursion IsTextByte (whole_text d)
whole_text_is_plain (text t) h = h.0
whole_text_is_plain (bool b) h = plain_inner (bool b) h.0
whole_text_is_plain (int z) h = plain_inner (int z) h.0
whole_text_is_plain (atom n) h = plain_inner (atom n) h.0
whole_text_is_plain (tuple ps) h = plain_inner (tuple ps) h.0
whole_text_is_plain (set ms) h = plain_inner (set ms) h.0
