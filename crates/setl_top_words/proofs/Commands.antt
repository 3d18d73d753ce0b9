-- The words of a command in parts: the first, those between, and the last.
use Rattle.std.proofs.Common.{subst, bytes_eq, if◌then◌else◌, Bool, true, false, ◌≡◌, ◌≢◌, ◌<◌, ◌≤◌, ◌∙◌, ℕ, List, [], ◌∷◌, ◌++◌, length, codes, decimal, refl, sym, ap, ap₂, rules, arith}
use Rattle.std.proofs.lemmas.Fmt.{decimal_injective}
use Rattle.std.specs.List.{flat_map}
use Rattle.setl_top_words.specs.Words.{Command, Run, Check, Code, Build, Advise, Explain, TellStop, Debug, Trial, run_word, Options, option_words, options_of, based_words, Spells, SpellsRun, SpellsTrial, IsFile, IsFaulty}
use Rattle.setl_top_words.specs.code.Reading.{Leads, LeadsNowhere}
use Rattle.setl_top_words.specs.declared.reading.FileKind.{FileKind}
use Rattle.setl_top_words.specs.declared.reading.FileKind.TheVariants.{Source, CodeFile}
use Rattle.setl_explain_words.specs.Stops.{stop_name}
use Rattle.setl_explain_words.specs.declared.stop.Stop.{Stop}
use Rattle.setl_explain_words.specs.declared.stop.Stop.TheVariants as stop
use Rattle.setl_top_options.specs.code.Given.{is_nothing}
use Rattle.setl_top_options.specs.declared.given.Given.{Given}
use Rattle.setl_top_words.proofs.Order.{head_of, tail_of, one_list, first_gives, options_from, comes_to}

pub no_end : (ys : List (List ℕ)) (y : List ℕ) → [] ≡ ys ++ y ∷ [] → ⊥
no_end [] y e = absurd (omega (arith, ap length e))
no_end (z ∷ ys) y e = absurd (omega (arith, ap length e))

pub one_last : (xs ys : List (List ℕ)) (x y : List ℕ) → xs ++ x ∷ [] ≡ ys ++ y ∷ [] → (xs ≡ ys) × (x ≡ y)
one_last [] [] x y e = (refl, head_of x y [] [] e)
one_last [] (z ∷ ys) x y e = absurd (no_end ys y (tail_of x z [] _ e))
one_last (z ∷ xs) [] x y e = absurd (no_end xs x (sym (tail_of z y _ [] e)))
one_last (z ∷ xs) (w ∷ ys) x y e =
    let (others, last) = one_last xs ys x y (tail_of z w _ _ e) in
    (ap₂ (λ a b. a ∷ b) (head_of z w _ _ e) others, last)

-- ---- first words

-- commands by their first words
abbrev kind_number : FileKind → ℕ
kind_number Source = 0
kind_number CodeFile = 1

abbrev number_of : Command → ℕ
number_of (Run kind options name) = kind_number kind
number_of (Check name) = 2
number_of (Code name) = 3
number_of (Build name) = 4
number_of (Advise name) = 5
number_of (Explain name) = 6
number_of (TellStop stop) = 6
number_of (Debug based name) = 7
number_of (Trial seed nodes) = 8

abbrev word_number : List ℕ → ℕ
word_number w =
    if bytes_eq w (codes "run") then 0 else if bytes_eq w (codes "exec") then 1 else if bytes_eq w (codes "check") then 2
    else if bytes_eq w (codes "code") then 3 else if bytes_eq w (codes "build") then 4 else if bytes_eq w (codes "advise") then 5
    else if bytes_eq w (codes "explain") then 6 else if bytes_eq w (codes "debug") then 7 else 8

few_kinds : (kind : FileKind) → kind_number kind < 2
few_kinds Source = omega arith
few_kinds CodeFile = omega arith

kind_word : (kind : FileKind) → word_number (run_word kind) ≡ kind_number kind
kind_word Source = refl
kind_word CodeFile = refl

one_kind : (a b : FileKind) → kind_number a ≡ kind_number b → a ≡ b
one_kind Source Source e = refl
one_kind Source CodeFile e = absurd (omega (arith, e))
one_kind CodeFile Source e = absurd (omega (arith, e))
one_kind CodeFile CodeFile e = refl

-- the first word of a command tells its number
numbered : (word : List ℕ) (rest : List (List ℕ)) (c : Command) → Spells (word ∷ rest) c → word_number word ≡ number_of c
numbered word rest (Run kind options name) s = ap word_number (head_of _ _ _ _ s.spelled) ∙ kind_word kind
numbered word rest (Check name) s = ap word_number (head_of word (codes "check") _ _ s.0)
numbered word rest (Code name) s = ap word_number (head_of word (codes "code") _ _ s.0)
numbered word rest (Build name) s = ap word_number (head_of word (codes "build") _ _ s.0)
numbered word rest (Advise name) s = ap word_number (head_of word (codes "advise") _ _ s.0)
numbered word rest (Explain name) s = ap word_number (head_of word (codes "explain") _ _ s.0)
numbered word rest (TellStop stop) s = ap word_number (head_of word (codes "explain") _ _ s)
numbered word rest (Debug based name) s = ap word_number (head_of word (codes "debug") _ _ s.0)
numbered word rest (Trial seed nodes) s = ap word_number (head_of word (codes "trial") _ _ s.spelled)

of_run : (kind : FileKind) (rest : List (List ℕ)) (c : Command) → Spells (run_word kind ∷ rest) c → kind_number kind ≡ number_of c
of_run kind rest c s = sym (kind_word kind) ∙ numbered (run_word kind) rest c s

of_explain : (rest : List (List ℕ)) (c : Command) → Spells (codes "explain" ∷ rest) c → 6 ≡ number_of c
of_explain rest c s = numbered (codes "explain") rest c s

of_trial : (words : List (List ℕ)) (word : List ℕ) (rest : List (List ℕ)) (c : Command) → words ≡ word ∷ rest → word ≡ codes "trial" → Spells words c → 8 ≡ number_of c
of_trial words word rest c e w s = numbered (codes "trial") rest c (subst (λ ws. Spells ws c) (e ∙ ap (λ x. x ∷ rest) w) s)

-- ---- faulty words

pub few_are_faulty : (words : List (List ℕ)) → ((word : List ℕ) (between : List (List ℕ)) (name : List ℕ) → words ≢ word ∷ between ++ name ∷ []) → IsFaulty words
few_are_faulty words few (Run kind options name) s = few (run_word kind) (flat_map option_words s.given) name s.spelled
few_are_faulty words few (Check name) s = few (codes "check") [] name s.0
few_are_faulty words few (Code name) s = few (codes "code") [] name s.0
few_are_faulty words few (Build name) s = few (codes "build") [] name s.0
few_are_faulty words few (Advise name) s = few (codes "advise") [] name s.0
few_are_faulty words few (Explain name) s = few (codes "explain") [] name s.0
few_are_faulty words few (TellStop stop) s = few (codes "explain") (codes "--stop" ∷ []) (stop_name stop) s
few_are_faulty words few (Debug based name) s = few (codes "debug") (based_words based) name s.0
few_are_faulty words few (Trial seed nodes) s = few (codes "trial") (decimal seed ∷ []) (decimal nodes) s.spelled

-- the last word is a file, but for a trial and a stop
pub dash_is_faulty : (words : List (List ℕ)) (word : List ℕ) (between : List (List ℕ)) (name : List ℕ) → words ≡ word ∷ between ++ name ∷ [] → word ≢ codes "trial" → word ≢ codes "explain" → (IsFile name → ⊥) → IsFaulty words
dash_is_faulty words word between name e other another none (Run kind options n) s =
    let parts = one_last between (flat_map option_words s.given) name n (tail_of _ _ _ _ (sym e ∙ s.spelled)) in
    none (subst IsFile (sym parts.1) s.file)
dash_is_faulty words word between name e other another none (Check n) s =
    let parts = one_last between [] name n (tail_of _ _ _ _ (sym e ∙ s.0)) in
    none (subst IsFile (sym parts.1) s.1)
dash_is_faulty words word between name e other another none (Code n) s =
    let parts = one_last between [] name n (tail_of _ _ _ _ (sym e ∙ s.0)) in
    none (subst IsFile (sym parts.1) s.1)
dash_is_faulty words word between name e other another none (Build n) s =
    let parts = one_last between [] name n (tail_of _ _ _ _ (sym e ∙ s.0)) in
    none (subst IsFile (sym parts.1) s.1)
dash_is_faulty words word between name e other another none (Advise n) s =
    let parts = one_last between [] name n (tail_of _ _ _ _ (sym e ∙ s.0)) in
    none (subst IsFile (sym parts.1) s.1)
dash_is_faulty words word between name e other another none (Explain n) s = another (head_of _ _ _ _ (sym e ∙ s.0))
dash_is_faulty words word between name e other another none (TellStop stop) s = another (head_of _ _ _ _ (sym e ∙ s))
dash_is_faulty words word between name e other another none (Debug based n) s =
    let parts = one_last between (based_words based) name n (tail_of _ _ _ _ (sym e ∙ s.0)) in
    none (subst IsFile (sym parts.1) s.1)
dash_is_faulty words word between name e other another none (Trial seed nodes) s = other (head_of _ _ _ _ (sym e ∙ s.spelled))

pub run_is_faulty : (kind : FileKind) (between : List (List ℕ)) (name : List ℕ) (given : Given) → given ≡ is_nothing → LeadsNowhere given between → IsFaulty (run_word kind ∷ between ++ name ∷ [])
run_is_faulty kind between name given is none (Run other options n) s =
    let parts = one_last between (flat_map option_words s.given) name n (tail_of _ _ _ _ s.spelled) in
    none s.given (first_gives given is between s.given parts.0 s.valid)
run_is_faulty kind between name given is none (Check n) s = absurd (omega (arith, few_kinds kind, of_run kind _ (Check n) s))
run_is_faulty kind between name given is none (Code n) s = absurd (omega (arith, few_kinds kind, of_run kind _ (Code n) s))
run_is_faulty kind between name given is none (Build n) s = absurd (omega (arith, few_kinds kind, of_run kind _ (Build n) s))
run_is_faulty kind between name given is none (Advise n) s = absurd (omega (arith, few_kinds kind, of_run kind _ (Advise n) s))
run_is_faulty kind between name given is none (Explain n) s = absurd (omega (arith, few_kinds kind, of_run kind _ (Explain n) s))
run_is_faulty kind between name given is none (TellStop stop) s = absurd (omega (arith, few_kinds kind, of_run kind _ (TellStop stop) s))
run_is_faulty kind between name given is none (Debug based n) s = absurd (omega (arith, few_kinds kind, of_run kind _ (Debug based n) s))
run_is_faulty kind between name given is none (Trial seed nodes) s = absurd (omega (arith, few_kinds kind, of_run kind _ (Trial seed nodes) s))

-- ---- the words of a trial

-- the words behind the first are its two numbers
pub two_numbers : (between : List (List ℕ)) (last : List ℕ) (seed nodes : ℕ) → SpellsTrial (codes "trial" ∷ between ++ last ∷ []) seed nodes → (between ≡ decimal seed ∷ []) × (last ≡ decimal nodes)
two_numbers between last seed nodes s = one_last between (decimal seed ∷ []) last (decimal nodes) (tail_of _ _ _ _ s.spelled)

-- the last is no number of nodes
pub no_nodes : (between : List (List ℕ)) (last : List ℕ) → ((n : ℕ) → 1 ≤ n → n ≤ 2000 → last ≢ decimal n) → (seed nodes : ℕ) → SpellsTrial (codes "trial" ∷ between ++ last ∷ []) seed nodes → ⊥
no_nodes between last none seed nodes s = none nodes s.some_nodes s.few_nodes (two_numbers between last seed nodes s).1

-- the first word is that of a trial
as_trial : (words : List (List ℕ)) (word : List ℕ) (between : List (List ℕ)) (last : List ℕ) → words ≡ word ∷ between ++ last ∷ [] → word ≡ codes "trial" → words ≡ codes "trial" ∷ between ++ last ∷ []
as_trial words word between last e w = e ∙ ap (λ x. x ∷ between ++ last ∷ []) w

pub trial_is_faulty : (words : List (List ℕ)) (word : List ℕ) (between : List (List ℕ)) (last : List ℕ) → words ≡ word ∷ between ++ last ∷ [] → word ≡ codes "trial" → ((seed nodes : ℕ) → SpellsTrial (codes "trial" ∷ between ++ last ∷ []) seed nodes → ⊥) → IsFaulty words
trial_is_faulty words word between last e w none (Run kind options n) s = absurd (omega (arith, few_kinds kind, of_trial words word _ (Run kind options n) e w s))
trial_is_faulty words word between last e w none (Check n) s = absurd (omega (arith, of_trial words word _ (Check n) e w s))
trial_is_faulty words word between last e w none (Code n) s = absurd (omega (arith, of_trial words word _ (Code n) e w s))
trial_is_faulty words word between last e w none (Build n) s = absurd (omega (arith, of_trial words word _ (Build n) e w s))
trial_is_faulty words word between last e w none (Advise n) s = absurd (omega (arith, of_trial words word _ (Advise n) e w s))
trial_is_faulty words word between last e w none (Explain n) s = absurd (omega (arith, of_trial words word _ (Explain n) e w s))
trial_is_faulty words word between last e w none (TellStop stop) s = absurd (omega (arith, of_trial words word _ (TellStop stop) e w s))
trial_is_faulty words word between last e w none (Debug based n) s = absurd (omega (arith, of_trial words word _ (Debug based n) e w s))
trial_is_faulty words word between last e w none (Trial seed nodes) s =
    none seed nodes (subst (λ ws. SpellsTrial ws seed nodes) (as_trial words word between last e w) s)

pub spells_trial : (words : List (List ℕ)) (word : List ℕ) (between : List (List ℕ)) (last : List ℕ) (seed nodes : ℕ) → words ≡ word ∷ between ++ last ∷ [] → word ≡ codes "trial" → SpellsTrial (codes "trial" ∷ between ++ last ∷ []) seed nodes → SpellsTrial words seed nodes
spells_trial words word between last seed nodes e w s =
    subst (λ ws. SpellsTrial ws seed nodes) (sym (as_trial words word between last e w)) s

one_trial : (words : List (List ℕ)) (a b c d : ℕ) → SpellsTrial words a b → SpellsTrial words c d → Trial a b ≡ Trial c d
one_trial words a b c d s t =
    let numbers = tail_of _ _ _ _ (sym s.spelled ∙ t.spelled) in
    let seeds = decimal_injective a c (omega (arith, s.seed_in_range)) (omega (arith, t.seed_in_range)) (head_of _ _ _ _ numbers) in
    let nodes = decimal_injective b d (omega (arith, s.few_nodes)) (omega (arith, t.few_nodes)) (head_of _ _ _ _ (tail_of _ _ _ _ numbers)) in
    ap₂ (λ x y. Trial x y) seeds nodes

-- ---- the words of an explanation

-- the stop of a name
abbrev stop_with : List ℕ → Stop
stop_with name =
    if bytes_eq name (codes "om") then stop.Om else if bytes_eq name (codes "kind") then stop.Kind
    else if bytes_eq name (codes "zero") then stop.Zero else if bytes_eq name (codes "range") then stop.Range
    else if bytes_eq name (codes "wide") then stop.Wide else if bytes_eq name (codes "deep") then stop.Deep
    else if bytes_eq name (codes "form") then stop.Form else if bytes_eq name (codes "nothing") then stop.Nothing
    else stop.Value

has_name : (a : Stop) → stop_with (stop_name a) ≡ a
has_name stop.Om = refl
has_name stop.Kind = refl
has_name stop.Zero = refl
has_name stop.Range = refl
has_name stop.Wide = refl
has_name stop.Deep = refl
has_name stop.Form = refl
has_name stop.Nothing = refl
has_name stop.Value = refl

one_stop : (a b : Stop) → stop_name a ≡ stop_name b → a ≡ b
one_stop a b e = sym (has_name a) ∙ ap stop_with e ∙ has_name b

-- behind the word of an explanation stands neither a file alone nor `--stop` and a stop
pub explain_is_faulty : (between : List (List ℕ)) (last : List ℕ) → (between ≡ [] → IsFile last → ⊥) → ((a : Stop) → between ≡ codes "--stop" ∷ [] → last ≡ stop_name a → ⊥) → IsFaulty (codes "explain" ∷ between ++ last ∷ [])
explain_is_faulty between last no_file no_stop (Run kind options n) s = absurd (omega (arith, few_kinds kind, of_explain _ (Run kind options n) s))
explain_is_faulty between last no_file no_stop (Check n) s = absurd (omega (arith, of_explain _ (Check n) s))
explain_is_faulty between last no_file no_stop (Code n) s = absurd (omega (arith, of_explain _ (Code n) s))
explain_is_faulty between last no_file no_stop (Build n) s = absurd (omega (arith, of_explain _ (Build n) s))
explain_is_faulty between last no_file no_stop (Advise n) s = absurd (omega (arith, of_explain _ (Advise n) s))
explain_is_faulty between last no_file no_stop (Explain n) s =
    let parts = one_last between [] last n (tail_of _ _ _ _ s.0) in
    no_file parts.0 (subst IsFile (sym parts.1) s.1)
explain_is_faulty between last no_file no_stop (TellStop j) s =
    let parts = one_last between (codes "--stop" ∷ []) last (stop_name j) (tail_of _ _ _ _ s) in
    no_stop j parts.0 parts.1
explain_is_faulty between last no_file no_stop (Debug based n) s = absurd (omega (arith, of_explain _ (Debug based n) s))
explain_is_faulty between last no_file no_stop (Trial seed nodes) s = absurd (omega (arith, of_explain _ (Trial seed nodes) s))

-- ---- the words of a session of the debugger

of_debug : (rest : List (List ℕ)) (c : Command) → Spells (codes "debug" ∷ rest) c → 7 ≡ number_of c
of_debug rest c s = numbered (codes "debug") rest c s

-- between the word of a session and its file stands neither nothing nor `--unbased`
pub debug_is_faulty : (between : List (List ℕ)) (last : List ℕ) → (between ≡ [] → ⊥) → (between ≡ codes "--unbased" ∷ [] → ⊥) → IsFaulty (codes "debug" ∷ between ++ last ∷ [])
debug_is_faulty between last some other (Run kind options n) s = absurd (omega (arith, few_kinds kind, of_debug _ (Run kind options n) s))
debug_is_faulty between last some other (Check n) s = absurd (omega (arith, of_debug _ (Check n) s))
debug_is_faulty between last some other (Code n) s = absurd (omega (arith, of_debug _ (Code n) s))
debug_is_faulty between last some other (Build n) s = absurd (omega (arith, of_debug _ (Build n) s))
debug_is_faulty between last some other (Advise n) s = absurd (omega (arith, of_debug _ (Advise n) s))
debug_is_faulty between last some other (Explain n) s = absurd (omega (arith, of_debug _ (Explain n) s))
debug_is_faulty between last some other (TellStop stop) s = absurd (omega (arith, of_debug _ (TellStop stop) s))
debug_is_faulty between last some other (Debug true n) s = some (one_last between [] last n (tail_of _ _ _ _ s.0)).0
debug_is_faulty between last some other (Debug false n) s = other (one_last between (codes "--unbased" ∷ []) last n (tail_of _ _ _ _ s.0)).0
debug_is_faulty between last some other (Trial seed nodes) s = absurd (omega (arith, of_debug _ (Trial seed nodes) s))

-- ---- the words of a run

pub spells_run : (kind : FileKind) (between : List (List ℕ)) (name : List ℕ) (given all : Given) (options : Options) → IsFile name → given ≡ is_nothing → Leads given between all → options ≡ options_from all → SpellsRun (run_word kind ∷ between ++ name ∷ []) kind options name
spells_run kind between name given all options f is l o = record {
  given = l.options;
  spelled = ap (λ xs. run_word kind ∷ xs ++ name ∷ []) l.gives.spelled;
  valid = l.gives.valid;
  file = f;
  means = o ∙ ap options_from l.comes_to ∙ comes_to given l.options is;
}

one_run : (words : List (List ℕ)) (k l : FileKind) (o p : Options) (n m : List ℕ) → k ≡ l → SpellsRun words k o n → SpellsRun words l p m → Run k o n ≡ Run l p m
one_run words k l o p n m kinds s t =
    let parts = one_last (flat_map option_words s.given) (flat_map option_words t.given) n m (tail_of _ _ _ _ (sym s.spelled ∙ t.spelled)) in
    let same = one_list s.given t.given s.valid t.valid parts.0 in
    (λ i. Run (kinds i) ((s.means ∙ ap options_of same ∙ sym t.means) i) (parts.1 i))

-- ---- one command

-- the number of the command that words spell
abbrev number_in : List (List ℕ) → ℕ
number_in [] = 0
number_in (w ∷ ws) = word_number w

number_is : (words : List (List ℕ)) (c : Command) → Spells words c → number_in words ≡ number_of c
number_is [] (Run kind options name) s = absurd (omega (arith, ap length s.spelled))
number_is [] (Check name) s = absurd (omega (arith, ap length s.0))
number_is [] (Code name) s = absurd (omega (arith, ap length s.0))
number_is [] (Build name) s = absurd (omega (arith, ap length s.0))
number_is [] (Advise name) s = absurd (omega (arith, ap length s.0))
number_is [] (Explain name) s = absurd (omega (arith, ap length s.0))
number_is [] (TellStop stop) s = absurd (omega (arith, ap length s))
number_is [] (Debug based name) s = absurd (omega (arith, ap length s.0))
number_is [] (Trial seed nodes) s = absurd (omega (arith, ap length s.spelled))
number_is (w ∷ ws) c s = numbered w ws c s

-- the word behind the first
abbrev second : List (List ℕ) → List ℕ
second [] = []
second (x ∷ []) = []
second (x ∷ y ∷ ws) = y

named : (words : List (List ℕ)) (a b : List ℕ) (n m : List ℕ) → words ≡ a ∷ n ∷ [] → words ≡ b ∷ m ∷ [] → n ≡ m
named words a b n m s t = ap second (sym s ∙ t)

same_by : (words : List (List ℕ)) (a b : Command) → Spells words a → Spells words b → number_of a ≡ number_of b → a ≡ b
same_by words (Run k o n) (Run l p m) s t e = one_run words k l o p n m (one_kind k l e) s t
same_by words (Check n) (Check m) s t e = ap Check (named words _ _ n m s.0 t.0)
same_by words (Code n) (Code m) s t e = ap Code (named words _ _ n m s.0 t.0)
same_by words (Build n) (Build m) s t e = ap Build (named words _ _ n m s.0 t.0)
same_by words (Advise n) (Advise m) s t e = ap Advise (named words _ _ n m s.0 t.0)
same_by words (Explain n) (Explain m) s t e = ap Explain (named words _ _ n m s.0 t.0)
same_by words (Explain n) (TellStop k) s t e = absurd (omega (arith, ap length (sym s.0 ∙ t)))
same_by words (TellStop j) (Explain m) s t e = absurd (omega (arith, ap length (sym s ∙ t.0)))
same_by words (TellStop j) (TellStop k) s t e = ap TellStop (one_stop j k (head_of _ _ _ _ (tail_of _ _ _ _ (tail_of _ _ _ _ (sym s ∙ t)))))
same_by words (Debug true n) (Debug true m) s t e = ap (Debug true) (named words _ _ n m s.0 t.0)
same_by words (Debug false n) (Debug false m) s t e = ap (Debug false) (head_of _ _ _ _ (tail_of _ _ _ _ (tail_of _ _ _ _ (sym s.0 ∙ t.0))))
same_by words (Debug true n) (Debug false m) s t e = absurd (omega (arith, ap length (sym s.0 ∙ t.0)))
same_by words (Debug false n) (Debug true m) s t e = absurd (omega (arith, ap length (sym s.0 ∙ t.0)))
same_by words (Trial a b) (Trial c d) s t e = one_trial words a b c d s t
same_by words (Run k o n) b s t e = absurd (omega (arith, few_kinds k, e))
same_by words a (Run k o n) s t e = absurd (omega (arith, few_kinds k, e))
same_by words a b s t e = absurd (omega (arith, e))

pub one_command : (words : List (List ℕ)) (a b : Command) → Spells words a → Spells words b → a ≡ b
one_command words a b s t = same_by words a b s t (sym (number_is words a s) ∙ number_is words b t)
