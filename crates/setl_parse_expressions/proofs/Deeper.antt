-- Where no nesting may open, and where one may.
use Rattle.std.proofs.Common.{◌≡◌, ℕ, suc, ◌-◌, ◌<◌, length, Err, refl, ap, arith}
use Rattle.setl_tree.specs.Tokens.{Tokens}
use Rattle.setl_parse_reading.specs.declared.fault.Fault.TheVariants.{Syntax}
use Rattle.setl_parse_reading.specs.code.ReadExpressions.{nested}
use Rattle.setl_parse_expressions.specs.declared.grammar.Part.{Part}
use Rattle.setl_parse_expressions.specs.declared.grammar.Part.TheVariants as part
use Rattle.setl_parse_expressions.specs.code.Nests.{reader_of}

pub refuses : (p : Part) (toks : Tokens) → reader_of (nested 0) p toks ≡ Err (Syntax (length toks))
unfolding nested
refuses part.Whole toks = refl
refuses part.Source toks = refl
refuses (part.After a) toks = refl

pub deeper : {X : Type 0} (f : ℕ → X) (n : ℕ) → 0 < n → f n ≡ f (suc (n - 1))
deeper f n some = let e : n ≡ suc (n - 1) = omega arith in ap f e
