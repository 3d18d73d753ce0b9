-- Lists of parts of which none begins here.
use Rattle.std.proofs.Common.{◌≡◌, ℕ, zero, suc, Bool, false, [], Ok, refl}
use Rattle.setl_tree.specs.declared.kind.Kind.{Kind}
use Rattle.setl_tree.specs.Tokens.{Tokens}
use Rattle.setl_tree.specs.Operators.{not_sign}
use Rattle.setl_parse_reading.specs.code.Reading.{Reader, begins_as, many, many_from, next_kind, one_of}
use Rattle.setl_parse_reading.specs.code.ReadExpressions.{Inside, begins_prefix, nots, prefix, prefixes}
use Rattle.setl_parse_expressions.specs.code.Parts.{before_primary, bare_expression, expression}

none_from : {A : Type 0} (begins : Kind → Bool) (item : Reader A) (n : ℕ) (toks : Tokens) → begins (next_kind toks) ≡ false → many_from begins item n [] toks ≡ Ok ([], toks)
unfolding many_from
none_from begins item zero toks h = refl
none_from begins item (suc n) toks h = rw h refl

pub none_begins : {A : Type 0} (begins : Kind → Bool) (item : Reader A) (toks : Tokens) → begins (next_kind toks) ≡ false → many begins item toks ≡ Ok ([], toks)
none_begins begins item toks h = none_from begins item _ toks h

-- where neither `not` nor a prefix stands
none_before : (toks : Tokens) → begins_as not_sign (next_kind toks) ≡ false → begins_prefix (next_kind toks) ≡ false → before_primary toks ≡ Ok (record { nots = []; prefixes = [] }, toks)
unfolding nots prefixes
none_before toks h k = rw (none_begins (begins_as not_sign) (one_of not_sign) toks h) (rw (none_begins begins_prefix prefix toks k) refl)

pub bare_is : (room : ℕ) (deep : Inside) (toks : Tokens) → begins_as not_sign (next_kind toks) ≡ false → begins_prefix (next_kind toks) ≡ false → expression room deep toks ≡ bare_expression room deep toks
bare_is room deep toks h k = rw (none_before toks h k) refl
