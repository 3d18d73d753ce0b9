use Rattle.std.proofs.Common.{◌≡◌, ◌≢◌, ◌<◌, ◌^◌, ◌∙◌, ℕ, List, [], ◌∷◌, ◌++◌, codes, decimal, refl, sym, ap, length, arith, rules}
use Rattle.std.proofs.lemmas.Fmt.{decimal_digit, decimal_injective, decimal_is_IsNumeral}
use Rattle.std.specs.Fmt.{digits}
use Rattle.std.specs.Str.Parse.{digits_value}
use Rattle.setl_top_words.specs.Words.{IsInRange, IsFaulty, SpellsTrial, option_words, watcher_word}
use Rattle.setl_top_words.specs.declared.reading.FileKind.TheVariants.{Source}
use Rattle.setl_top_options.specs.code.Given.{with_given, is_nothing}
use Rattle.setl_top_options.specs.declared.given.RunOption.{RunOption}
use Rattle.setl_top_options.specs.declared.given.RunOption.TheVariants.{Unbased, Dump, Turns, Watch}
use Rattle.setl_top_options.specs.declared.watching.Asked.{Asked}
use Rattle.setl_top_options.specs.declared.watching.Asked.TheVariants.{Trace, Cover, Profile}
use Rattle.setl_top_words.specs.code.Reading.{LeadsNowhere}
use Rattle.setl_top_words.proofs.Order.{turns_or_watch, dump_or_turns, dump_or_watch, head_of, tail_of, nowhere_on, nowhere_again, nowhere_else}
use Rattle.setl_top_words.proofs.Commands.{no_end, few_are_faulty, run_is_faulty, dash_is_faulty, debug_is_faulty, trial_is_faulty, two_numbers}
use Rattle.setl_top_words.proofs.laws.faulty_words.Goals as goal

run_with : (between : List (List ℕ)) → LeadsNowhere is_nothing between → IsFaulty (codes "run" ∷ between ++ codes "q" ∷ [])
run_with between none = run_is_faulty Source between (codes "q") is_nothing refl none

run_or_trial : codes "run" ≢ codes "trial"
run_or_trial e = absurd (search (rules, e))

run_or_explain : codes "run" ≢ codes "explain"
run_or_explain e = absurd (search (rules, e))

again : LeadsNowhere is_nothing (codes "--unbased" ∷ codes "--unbased" ∷ [])
again = nowhere_on is_nothing (with_given is_nothing Unbased) _ (codes "--unbased" ∷ []) Unbased refl tt refl
    (nowhere_again (with_given is_nothing Unbased) _ [] Unbased refl tt (λ free. absurd (search (rules, free))))

unbased_or_turns : codes "--turns" ≢ codes "--unbased"
unbased_or_turns e = absurd (search (rules, e))

watch_or_unbased : codes "--watch" ≢ codes "--unbased"
watch_or_unbased e = absurd (search (rules, e))

-- the value behind `--turns` is no number in range
no_turns : (behind : List (List ℕ)) → ((n : ℕ) (rest : List (List ℕ)) → n < 2 ^ 63 → behind ≢ decimal n ∷ rest) → LeadsNowhere is_nothing (codes "--turns" ∷ behind)
no_turns behind none = nowhere_else is_nothing _ (λ e. absurd (omega (arith, ap length e))) (λ a rest i e. no_option a rest i e)
  where
    no_option : (a : RunOption) (rest : List (List ℕ)) → IsInRange a → codes "--turns" ∷ behind ≡ option_words a ++ rest → ⊥
    no_option Unbased rest i e = unbased_or_turns (head_of _ _ _ _ e)
    no_option Dump rest i e = dump_or_turns (sym (head_of _ _ _ _ e))
    no_option (Turns n) rest i e = none n rest i (tail_of _ _ _ _ e)
    no_option (Watch a) rest i e = turns_or_watch (head_of _ _ _ _ e)

-- the value behind `--watch` is no watcher
no_watcher : (behind : List (List ℕ)) → ((a : Asked) (rest : List (List ℕ)) → behind ≢ watcher_word a ∷ rest) → LeadsNowhere is_nothing (codes "--watch" ∷ behind)
no_watcher behind none = nowhere_else is_nothing _ (λ e. absurd (omega (arith, ap length e))) (λ a rest i e. no_option a rest e)
  where
    no_option : (a : RunOption) (rest : List (List ℕ)) → codes "--watch" ∷ behind ≡ option_words a ++ rest → ⊥
    no_option Unbased rest e = watch_or_unbased (head_of _ _ _ _ e)
    no_option Dump rest e = dump_or_watch (sym (head_of _ _ _ _ e))
    no_option (Turns n) rest e = turns_or_watch (sym (head_of _ _ _ _ e))
    no_option (Watch a) rest e = none a rest (tail_of _ _ _ _ e)

profiles : (a : Asked) (rest : List (List ℕ)) → codes "profiles" ∷ [] ≢ watcher_word a ∷ rest
profiles Trace rest e = let same = head_of _ _ _ _ e in absurd (search (rules, same))
profiles Cover rest e = let same = head_of _ _ _ _ e in absurd (search (rules, same))
profiles Profile rest e = let same = head_of _ _ _ _ e in absurd (search (rules, same))

two_watchers : LeadsNowhere is_nothing (codes "--watch" ∷ codes "trace" ∷ codes "--watch" ∷ codes "cover" ∷ [])
two_watchers = nowhere_on is_nothing (with_given is_nothing (Watch Trace)) _ (codes "--watch" ∷ codes "cover" ∷ []) (Watch Trace) refl tt refl
    (nowhere_again (with_given is_nothing (Watch Trace)) _ [] (Watch Cover) refl tt (λ free. absurd (search (rules, free))))

leading_zero : (n : ℕ) (rest : List (List ℕ)) → n < 2 ^ 63 → codes "07" ∷ [] ≢ decimal n ∷ rest
leading_zero n rest small e =
    let is = head_of _ _ _ _ e in
    let seven : 7 ≡ n = ap (digits_value 10) is ∙ (decimal_is_IsNumeral n (omega (arith, small))).1 in
    let one : length (decimal 7) ≡ 1 = ap length (decimal_digit 7 (omega arith)) in
    let two : 2 ≡ length (decimal n) = ap length is in
    absurd (omega (arith, two, one, ap (λ x. length (decimal x)) seven))

most : codes "9223372036854775808" ≡ decimal (2 ^ 63)
unfolding digits
most = refl

too_great : (n : ℕ) (rest : List (List ℕ)) → n < 2 ^ 63 → codes "9223372036854775808" ∷ [] ≢ decimal n ∷ rest
too_great n rest small e =
    let same = decimal_injective (2 ^ 63) n (omega arith) (omega (arith, small)) (sym most ∙ head_of _ _ _ _ e) in
    absurd (omega (arith, small, same))

-- ---- trials

trial_with : (between : List (List ℕ)) (last : List ℕ) → ((seed nodes : ℕ) → SpellsTrial (codes "trial" ∷ between ++ last ∷ []) seed nodes → ⊥) → IsFaulty (codes "trial" ∷ between ++ last ∷ [])
trial_with between last none = trial_is_faulty _ (codes "trial") between last refl refl none

no_nodes : (seed nodes : ℕ) → SpellsTrial (codes "trial" ∷ codes "7" ∷ []) seed nodes → ⊥
no_nodes seed nodes s = absurd (omega (arith, ap length s.spelled))

none_spelled : codes "0" ≡ decimal 0
unfolding digits
none_spelled = refl

too_few_nodes : (seed nodes : ℕ) → SpellsTrial (codes "trial" ∷ codes "7" ∷ codes "0" ∷ []) seed nodes → ⊥
too_few_nodes seed nodes s =
    let parts = two_numbers (codes "7" ∷ []) (codes "0") seed nodes s in
    let same = decimal_injective 0 nodes (omega arith) (omega (arith, s.few_nodes)) (sym none_spelled ∙ parts.1) in
    absurd (omega (arith, s.some_nodes, same))

many_spelled : codes "2001" ≡ decimal 2001
unfolding digits
many_spelled = refl

too_many_nodes : (seed nodes : ℕ) → SpellsTrial (codes "trial" ∷ codes "7" ∷ codes "2001" ∷ []) seed nodes → ⊥
too_many_nodes seed nodes s =
    let parts = two_numbers (codes "7" ∷ []) (codes "2001") seed nodes s in
    let same = decimal_injective 2001 nodes (omega arith) (omega (arith, s.few_nodes)) (sym many_spelled ∙ parts.1) in
    absurd (omega (arith, s.few_nodes, same))

other_seed : (seed nodes : ℕ) → SpellsTrial (codes "trial" ∷ codes "07" ∷ codes "1" ∷ []) seed nodes → ⊥
other_seed seed nodes s = leading_zero seed [] s.seed_in_range (two_numbers (codes "07" ∷ []) (codes "1") seed nodes s).0

pub returns : goal.returns
returns c = record {
  nothing = few_are_faulty [] (λ w b n e. absurd (omega (arith, ap length e)));
  no_file = few_are_faulty _ (λ w b n e. no_end b n (tail_of (codes "run") w [] _ e));
  dash = dash_is_faulty _ (codes "run") (codes "q" ∷ []) (codes "--unbased") refl run_or_trial run_or_explain (λ f. f refl);
  again = run_with _ again;
  no_value = run_with _ (no_turns [] (λ n rest small e. absurd (omega (arith, ap length e))));
  no_watcher = run_with _ (no_watcher [] (λ a rest e. absurd (omega (arith, ap length e))));
  other_watcher = run_with _ (no_watcher _ profiles);
  two_watchers = run_with _ two_watchers;
  leading_zero = run_with _ (no_turns _ leading_zero);
  too_great = run_with _ (no_turns _ too_great);
  other_option = debug_is_faulty (codes "--turns" ∷ []) (codes "q") (λ e. absurd (omega (arith, ap length e))) (λ e. unbased_or_turns (head_of _ _ _ _ e));
  no_nodes = trial_with [] (codes "7") no_nodes;
  too_few_nodes = trial_with (codes "7" ∷ []) (codes "0") too_few_nodes;
  too_many_nodes = trial_with (codes "7" ∷ []) (codes "2001") too_many_nodes;
  other_seed = trial_with (codes "07" ∷ []) (codes "1") other_seed;
}
