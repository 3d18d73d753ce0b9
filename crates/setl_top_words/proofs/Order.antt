-- How the options of a run follow one another in the words.
use Rattle.std.proofs.Common.{◌≡◌, ◌≢◌, ◌^◌, ◌-◌, ◌∙◌, ℕ, not, List, [], ◌∷◌, ◌++◌, length, map, Option, Some, None, IfNone, codes, refl, sym, ap, ap₂, subst, rules, arith, drop, unwrap_or}
use Rattle.std.proofs.lemmas.Fmt.{decimal_injective}
use Rattle.std.specs.List.{flat_map, fold}
use Rattle.setl_top_words.specs.Words.{watcher_word, option_words, IsInRange, IsSameKind, IsOther, AreOptions, Options, with_option, options_of}
use Rattle.setl_top_words.specs.code.Reading.{AreFree, Gives, Leads, LeadsNowhere}
use Rattle.setl_top_options.specs.code.Given.{IsFree, with_given, is_nothing}
use Rattle.setl_top_options.specs.declared.given.Given.{Given}
use Rattle.setl_top_options.specs.declared.given.RunOption.{RunOption}
use Rattle.setl_top_options.specs.declared.given.RunOption.TheVariants.{Unbased, Dump, Turns, Watch}
use Rattle.setl_top_options.specs.declared.watching.Asked.{Asked}
use Rattle.setl_top_options.specs.declared.watching.Asked.TheVariants.{Trace, Cover, Profile}

-- what holds holds also where something isn't there
pub always : {T P : Type 0} → (r : Option T) → P → IfNone r P
always None p = p
always (Some x) p = tt

pub so_if_none : {T P Q : Type 0} → (r : Option T) → (P → Q) → IfNone r P → IfNone r Q
so_if_none None f p = f p
so_if_none (Some x) f p = tt

pub some_words : {S : Type 0} → (f : S → List ℕ) → (words : List S) → (length words ≡ 0 → ⊥) → map f words ≢ []
some_words f [] some e = some refl
some_words f (w ∷ ws) some e = absurd (omega (arith, ap length e))

-- ---- words begin with at most one option

abbrev first_or : {T : Type 0} → T → List T → T
first_or d [] = d
first_or d (x ∷ xs) = x

pub head_of : {T : Type 0} → (x y : T) (xs ys : List T) → x ∷ xs ≡ y ∷ ys → x ≡ y
head_of x y xs ys e = ap (first_or x) e

pub tail_of : {T : Type 0} → (x y : T) (xs ys : List T) → x ∷ xs ≡ y ∷ ys → xs ≡ ys
tail_of x y xs ys e = ap (drop 1) e

unbased_or_turns : codes "--unbased" ≢ codes "--turns"
unbased_or_turns e = absurd (search (rules, e))

unbased_or_dump : codes "--unbased" ≢ codes "--dump"
unbased_or_dump e = absurd (search (rules, e))

pub dump_or_turns : codes "--dump" ≢ codes "--turns"
dump_or_turns e = absurd (search (rules, e))

pub dump_or_watch : codes "--dump" ≢ codes "--watch"
dump_or_watch e = absurd (search (rules, e))

unbased_or_watch : codes "--unbased" ≢ codes "--watch"
unbased_or_watch e = absurd (search (rules, e))

pub turns_or_watch : codes "--turns" ≢ codes "--watch"
turns_or_watch e = absurd (search (rules, e))

trace_or_cover : codes "trace" ≢ codes "cover"
trace_or_cover e = absurd (search (rules, e))

trace_or_profile : codes "trace" ≢ codes "profile"
trace_or_profile e = absurd (search (rules, e))

cover_or_profile : codes "cover" ≢ codes "profile"
cover_or_profile e = absurd (search (rules, e))

one_watcher : (a b : Asked) → watcher_word a ≡ watcher_word b → a ≡ b
one_watcher Trace Trace e = refl
one_watcher Trace Cover e = absurd (trace_or_cover e)
one_watcher Cover Trace e = absurd (trace_or_cover (sym e))
one_watcher Cover Cover e = refl
one_watcher Trace Profile e = absurd (trace_or_profile e)
one_watcher Profile Trace e = absurd (trace_or_profile (sym e))
one_watcher Cover Profile e = absurd (cover_or_profile e)
one_watcher Profile Cover e = absurd (cover_or_profile (sym e))
one_watcher Profile Profile e = refl

pub one_option : (a b : RunOption) (xs ys : List (List ℕ)) → IsInRange a → IsInRange b → option_words a ++ xs ≡ option_words b ++ ys → (a ≡ b) × (xs ≡ ys)
one_option Unbased Unbased xs ys i j e = (refl, tail_of _ _ xs ys e)
one_option Unbased (Turns m) xs ys i j e = absurd (unbased_or_turns (head_of _ _ _ _ e))
one_option Unbased (Watch b) xs ys i j e = absurd (unbased_or_watch (head_of _ _ _ _ e))
one_option Unbased Dump xs ys i j e = absurd (unbased_or_dump (head_of _ _ _ _ e))
one_option Dump Dump xs ys i j e = (refl, tail_of _ _ xs ys e)
one_option Dump Unbased xs ys i j e = absurd (unbased_or_dump (sym (head_of _ _ _ _ e)))
one_option Dump (Turns m) xs ys i j e = absurd (dump_or_turns (head_of _ _ _ _ e))
one_option Dump (Watch b) xs ys i j e = absurd (dump_or_watch (head_of _ _ _ _ e))
one_option (Turns n) Dump xs ys i j e = absurd (dump_or_turns (sym (head_of _ _ _ _ e)))
one_option (Watch a) Dump xs ys i j e = absurd (dump_or_watch (sym (head_of _ _ _ _ e)))
one_option (Turns n) Unbased xs ys i j e = absurd (unbased_or_turns (sym (head_of _ _ _ _ e)))
one_option (Turns n) (Watch b) xs ys i j e = absurd (turns_or_watch (head_of _ _ _ _ e))
one_option (Watch a) Unbased xs ys i j e = absurd (unbased_or_watch (sym (head_of _ _ _ _ e)))
one_option (Watch a) (Turns m) xs ys i j e = absurd (turns_or_watch (sym (head_of _ _ _ _ e)))
one_option (Watch a) (Watch b) xs ys i j e =
    let behind = tail_of _ _ _ _ e in
    (ap Watch (one_watcher a b (head_of _ _ _ _ behind)), tail_of _ _ _ _ behind)
one_option (Turns n) (Turns m) xs ys i j e =
    let behind = tail_of _ _ _ _ e in
    (ap Turns (decimal_injective n m (omega (arith, i)) (omega (arith, j)) (head_of _ _ _ _ behind)), tail_of _ _ _ _ behind)

no_option_is_empty : (a : RunOption) (xs : List (List ℕ)) → [] ≡ option_words a ++ xs → ⊥
no_option_is_empty Unbased xs e = absurd (omega (arith, ap length e))
no_option_is_empty Dump xs e = absurd (omega (arith, ap length e))
no_option_is_empty (Turns n) xs e = absurd (omega (arith, ap length e))
no_option_is_empty (Watch a) xs e = absurd (omega (arith, ap length e))

pub one_list : (os ps : List RunOption) → AreOptions os → AreOptions ps → flat_map option_words os ≡ flat_map option_words ps → os ≡ ps
one_list [] [] i j e = refl
one_list [] (b ∷ ps) i j e = absurd (no_option_is_empty b _ e)
one_list (a ∷ os) [] i j e = absurd (no_option_is_empty a _ (sym e))
one_list (a ∷ os) (b ∷ ps) i j e =
    let (same, behind) = one_option a b _ _ i.0 j.0 e in
    ap₂ (λ x xs. x ∷ xs) same (one_list os ps i.2 j.2 behind)

-- ---- what stays free

-- what is free beside an option that was given is free without it, and of another kind
free_before : (given : Given) (a b : RunOption) → IsFree (with_given given a) b → IsFree given b × (IsSameKind a b → ⊥)
free_before given Unbased Unbased f = absurd (search (rules, f))
free_before given Unbased (Turns m) f = (f, λ x. x)
free_before given Unbased (Watch b) f = (f, λ x. x)
free_before given Unbased Dump f = (f, λ x. x)
free_before given Dump Unbased f = (f, λ x. x)
free_before given Dump Dump f = absurd (search (rules, f))
free_before given Dump (Turns m) f = (f, λ x. x)
free_before given Dump (Watch b) f = (f, λ x. x)
free_before given (Turns n) Dump f = (f, λ x. x)
free_before given (Watch a) Dump f = (f, λ x. x)
free_before given (Turns n) Unbased f = (f, λ x. x)
free_before given (Turns n) (Turns m) f = absurd (search (rules, f))
free_before given (Turns n) (Watch b) f = (f, λ x. x)
free_before given (Watch a) Unbased f = (f, λ x. x)
free_before given (Watch a) (Turns m) f = (f, λ x. x)
free_before given (Watch a) (Watch b) f = absurd (search (rules, f))

free_after : (given : Given) (a b : RunOption) → IsFree given b → (IsSameKind a b → ⊥) → IsFree (with_given given a) b
free_after given Unbased Unbased f o = absurd (o tt)
free_after given Unbased (Turns m) f o = f
free_after given Unbased (Watch b) f o = f
free_after given Unbased Dump f o = f
free_after given Dump Unbased f o = f
free_after given Dump Dump f o = absurd (o tt)
free_after given Dump (Turns m) f o = f
free_after given Dump (Watch b) f o = f
free_after given (Turns n) Dump f o = f
free_after given (Watch a) Dump f o = f
free_after given (Turns n) Unbased f o = f
free_after given (Turns n) (Turns m) f o = absurd (o tt)
free_after given (Turns n) (Watch b) f o = f
free_after given (Watch a) Unbased f o = f
free_after given (Watch a) (Turns m) f o = f
free_after given (Watch a) (Watch b) f o = absurd (o tt)

all_free_before : (given : Given) (a : RunOption) (bs : List RunOption) → AreFree (with_given given a) bs → AreFree given bs × IsOther a bs
all_free_before given a [] f = (tt, tt)
all_free_before given a (b ∷ bs) f =
    let one = free_before given a b f.0 in
    let others = all_free_before given a bs f.1 in
    ((one.0, others.0), (one.1, others.1))

all_free_after : (given : Given) (a : RunOption) (bs : List RunOption) → AreFree given bs → IsOther a bs → AreFree (with_given given a) bs
all_free_after given a [] f o = tt
all_free_after given a (b ∷ bs) f o = (free_after given a b f.0 o.0, all_free_after given a bs f.1 o.1)

-- ---- reading on

pub gives_none : (given : Given) → Gives given [] []
gives_none given = record { spelled = refl; valid = tt; free = tt }

pub leads_on : (given next : Given) (words rest : List (List ℕ)) (a : RunOption) (all : Given) → words ≡ option_words a ++ rest → IsInRange a → next ≡ with_given given a → IsFree given a → Leads next rest all → Leads given words all
leads_on given next words rest a all e i n f m =
    let l = subst (λ x. Leads x rest all) n m in
    let free = all_free_before given a l.options l.gives.free in
    record {
      options = a ∷ l.options;
      gives = record {
        spelled = e ∙ ap (λ xs. option_words a ++ xs) l.gives.spelled;
        valid = (i, free.1, l.gives.valid);
        free = (f, free.0);
      };
      comes_to = l.comes_to;
    }

-- where options are given that begin with this one, the rest gives the others
gives_on : (given : Given) (words rest : List (List ℕ)) (a : RunOption) (options : List RunOption) → words ≡ option_words a ++ rest → IsInRange a → Gives given words options → (others : List RunOption) × IsFree given a × Gives (with_given given a) rest others
gives_on given words rest a [] e i g = absurd (no_option_is_empty a rest (sym g.spelled ∙ e))
gives_on given words rest a (b ∷ bs) e i g =
    let (same, behind) = one_option a b rest _ i g.valid.0 (sym e ∙ g.spelled) in
    let free = subst (λ x. IsFree given x) (sym same) g.free.0 in
    let other = subst (λ x. IsOther x bs) (sym same) g.valid.1 in
    (bs, free, record { spelled = behind; valid = g.valid.2; free = all_free_after given a bs g.free.1 other })

pub nowhere_again : (given : Given) (words rest : List (List ℕ)) (a : RunOption) → words ≡ option_words a ++ rest → IsInRange a → (IsFree given a → ⊥) → LeadsNowhere given words
nowhere_again given words rest a e i again options g = again (gives_on given words rest a options e i g).1

pub nowhere_on : (given next : Given) (words rest : List (List ℕ)) (a : RunOption) → words ≡ option_words a ++ rest → IsInRange a → next ≡ with_given given a → LeadsNowhere next rest → LeadsNowhere given words
nowhere_on given next words rest a e i n none options g =
    let on = gives_on given words rest a options e i g in
    none on.0 (subst (λ x. Gives x rest on.0) (sym n) on.2)

pub nowhere_else : (given : Given) (words : List (List ℕ)) → words ≢ [] → ((a : RunOption) (rest : List (List ℕ)) → IsInRange a → words ≡ option_words a ++ rest → ⊥) → LeadsNowhere given words
nowhere_else given words some none [] g = some g.spelled
nowhere_else given words some none (b ∷ bs) g = none b _ g.valid.0 g.spelled

-- where nothing was given, everything is free
all_free_at_first : (options : List RunOption) → AreFree is_nothing options
all_free_at_first [] = tt
all_free_at_first (Unbased ∷ options) = (refl, all_free_at_first options)
all_free_at_first (Dump ∷ options) = (refl, all_free_at_first options)
all_free_at_first (Turns n ∷ options) = (refl, all_free_at_first options)
all_free_at_first (Watch a ∷ options) = (refl, all_free_at_first options)

pub first_gives : (given : Given) → given ≡ is_nothing → (words : List (List ℕ)) (options : List RunOption) → words ≡ flat_map option_words options → AreOptions options → Gives given words options
first_gives given is words options e valid = record { spelled = e; valid = valid; free = subst (λ g. AreFree g options) (sym is) (all_free_at_first options) }

-- ---- what options come to

abbrev pub options_from : Given → Options
options_from given = record { turns = unwrap_or given.turns (2 ^ 63 - 1); based = not given.unbased; dump = given.dump; watch = given.watch }

comes_on : (given : Given) (a : RunOption) → options_from (with_given given a) ≡ with_option (options_from given) a
comes_on given Unbased = refl
comes_on given Dump = refl
comes_on given (Turns n) = refl
comes_on given (Watch a) = refl

comes_to_all : (given : Given) (options : List RunOption) → options_from (fold with_given given options) ≡ fold with_option (options_from given) options
comes_to_all given [] = refl
comes_to_all given (a ∷ os) = comes_to_all (with_given given a) os ∙ ap (λ o. fold with_option o os) (comes_on given a)

pub comes_to : (given : Given) (options : List RunOption) → given ≡ is_nothing → options_from (fold with_given given options) ≡ options_of options
comes_to given options is = comes_to_all given options ∙ ap (λ g. fold with_option (options_from g) options) is
