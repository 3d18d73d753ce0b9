use Rattle.std.proofs.Common.{◌≡◌, [], ◌∷◌, ◌++◌, codes, decimal, refl, arith}
use Rattle.std.specs.Fmt.{digits}
use Rattle.std.specs.List.{flat_map}
use Rattle.setl_top_words.specs.Words.{IsFile, option_words}
use Rattle.setl_top_options.specs.declared.given.RunOption.TheVariants.{Unbased, Dump, Turns, Watch}
use Rattle.setl_top_options.specs.declared.watching.Asked.TheVariants.{Trace, Cover, Profile}
use Rattle.setl_top_words.proofs.laws.plain_words.Goals as goal

is_file : IsFile (codes "q")
is_file e = absurd (omega (arith, e))

both : codes "run" ∷ codes "--turns" ∷ codes "50" ∷ codes "--unbased" ∷ codes "q" ∷ [] ≡ codes "run" ∷ flat_map option_words (Turns 50 ∷ Unbased ∷ []) ++ codes "q" ∷ []
unfolding digits
both = refl

swapped : codes "run" ∷ codes "--unbased" ∷ codes "--turns" ∷ codes "0" ∷ codes "q" ∷ [] ≡ codes "run" ∷ flat_map option_words (Unbased ∷ Turns 0 ∷ []) ++ codes "q" ∷ []
unfolding digits
swapped = refl

code_file : codes "exec" ∷ codes "--turns" ∷ codes "50" ∷ codes "q" ∷ [] ≡ codes "exec" ∷ flat_map option_words (Turns 50 ∷ []) ++ codes "q" ∷ []
unfolding digits
code_file = refl

trial : codes "trial" ∷ codes "7" ∷ codes "2000" ∷ [] ≡ codes "trial" ∷ decimal 7 ∷ decimal 2000 ∷ []
unfolding digits
trial = refl

pub returns : goal.returns
returns c = record {
  run = record { given = []; spelled = refl; valid = tt; file = is_file; means = refl };
  both = record { given = Turns 50 ∷ Unbased ∷ []; spelled = both; valid = (omega arith, (λ x. x, tt), (tt, tt, tt)); file = is_file; means = refl };
  swapped = record { given = Unbased ∷ Turns 0 ∷ []; spelled = swapped; valid = (tt, (λ x. x, tt), (omega arith, tt, tt)); file = is_file; means = refl };
  trace = record { given = Watch Trace ∷ []; spelled = refl; valid = (tt, tt, tt); file = is_file; means = refl };
  profile = record { given = Watch Profile ∷ []; spelled = refl; valid = (tt, tt, tt); file = is_file; means = refl };
  cover = record { given = Unbased ∷ Watch Cover ∷ []; spelled = refl; valid = (tt, (λ x. x, tt), (tt, tt, tt)); file = is_file; means = refl };
  dump = record { given = Dump ∷ []; spelled = refl; valid = (tt, tt, tt); file = is_file; means = refl };
  code_file = record { given = Turns 50 ∷ []; spelled = code_file; valid = (omega arith, tt, tt); file = is_file; means = refl };
  check = (refl, is_file);
  debug = (refl, is_file);
  unbased = (refl, is_file);
  trial = record { spelled = trial; seed_in_range = omega arith; some_nodes = omega arith; few_nodes = omega arith };
}
