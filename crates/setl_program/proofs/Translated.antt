-- The worked rows of expressions, by computation.
use Rattle.std.proofs.Common.{◌≡◌, map, refl}
use Rattle.setl_program.specs.Samples.{term_in_main, operators_parts, operators_terms, selections_parts, selections_terms, ranges_parts, ranges_terms, formers_parts, formers_terms, quantifiers_parts, quantifiers_terms, calls_parts, calls_terms}

pub operators : map term_in_main operators_parts ≡ operators_terms
operators = refl

pub selections : map term_in_main selections_parts ≡ selections_terms
selections = refl

pub ranges : map term_in_main ranges_parts ≡ ranges_terms
ranges = refl

pub formers : map term_in_main formers_parts ≡ formers_terms
formers = refl

pub quantifiers : map term_in_main quantifiers_parts ≡ quantifiers_terms
quantifiers = refl

pub calls : map term_in_main calls_parts ≡ calls_terms
calls = refl
