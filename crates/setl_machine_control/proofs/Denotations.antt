-- What a call of the reader makes of the bytes that are still to come.
use Rattle.std.proofs.Common.{◌≡◌, ◌∙◌, inl, inr, ℕ, Bool, true, List, [], ◌∷◌, ◌++◌, Option, None, Some, Ok, Err, sym, ap, subst, append_assoc}
use Rattle.std.specs.Prelude.{Result, MatchOption}
use Rattle.std.specs.Io.KnownBytes.{Consumes}
use Rattle.std.proofs.lemmas.List.{append-nil}
use Rattle.setl_io.specs.Source.{AreBytes, TellsBytes}
use Rattle.setl_value.specs.Datum.{Datum}
use Rattle.setl_value.specs.code.DatumOf.{datum}
use Rattle.setl_value.specs.declared.Value as values
use Rattle.setl_text.specs.Reading.{Reading, Denotes, AtEnd, NotForm, TooWide, TooDeep, read_denotation}
use Rattle.setl_text.specs.code.Reads.{Answered, Answers, KeepsFault, IsAll}
use Rattle.setl_text.specs.declared.Got.{Got}
use Rattle.setl_text.specs.declared.Got.TheVariants.{Value, Om, End}
use Rattle.setl_text.specs.declared.ReadFault.{ReadFault}
use Rattle.setl_text.specs.declared.ReadFault.TheVariants.{Form, Wide, Deep, Source, NoMemory}
use Rattle.setl_code.specs.CodeCore.{Result as Pushed, CodeCore}
use Rattle.setl_code.specs.Machine.{next, push_read}
use Rattle.setl_machine_control.specs.Control.{ControlState, kept_for, world_of, in_world, IsRest}
use Rattle.setl_machine_control.specs.Reading.{IsBefore, TakesIn}

-- these bytes were to come before, and these are now
abbrev Took : Result Got ReadFault → List ℕ → List ℕ → Type 0
Took (Ok (Value v)) old new = read_denotation old ≡ Denotes (Some (datum v)) new
Took (Ok Om) old new = read_denotation old ≡ Denotes None new
Took (Ok End) old new = (read_denotation old ≡ AtEnd) × (new ≡ [])
Took (Err Form) old new = (read_denotation old ≡ NotForm) × ((taken : List ℕ) × (old ≡ taken ++ new))
Took (Err Wide) old new = (read_denotation old ≡ TooWide) × ((taken : List ℕ) × (old ≡ taken ++ new))
Took (Err Deep) old new = (read_denotation old ≡ TooDeep) × ((taken : List ℕ) × (old ≡ taken ++ new))
Took (Err Source) old new = Unit {0}
Took (Err NoMemory) old new = Unit {0}

took : (r : Result Got ReadFault) (fault : Option ReadFault) (old kept rest taken : List ℕ) → KeepsFault r fault → Answered r (kept ++ rest) (read_denotation old) → old ≡ taken ++ rest → Took r old (kept_for fault kept ++ rest)
took (Ok (Value v)) fault old kept rest taken f a t = subst (λ x. read_denotation old ≡ Denotes (Some (datum v)) (kept_for x kept ++ rest)) (sym f) a
took (Ok Om) fault old kept rest taken f a t = subst (λ x. read_denotation old ≡ Denotes None (kept_for x kept ++ rest)) (sym f) a
took (Ok End) fault old kept rest taken f a t = subst (λ x. (read_denotation old ≡ AtEnd) × (kept_for x kept ++ rest ≡ [])) (sym f) a
took (Err Form) fault old kept rest taken f a t = (a, (taken, subst (λ x. old ≡ taken ++ (kept_for x kept ++ rest)) (sym f) t))
took (Err Wide) fault old kept rest taken f a t = (a, (taken, subst (λ x. old ≡ taken ++ (kept_for x kept ++ rest)) (sym f) t))
took (Err Deep) fault old kept rest taken f a t = (a, (taken, subst (λ x. old ≡ taken ++ (kept_for x kept ++ rest)) (sym f) t))
took (Err Source) fault old kept rest taken f a t = tt
took (Err NoMemory) fault old kept rest taken f a t = tt

bytes_then : (xs ys : List ℕ) → AreBytes xs → AreBytes ys → AreBytes (xs ++ ys)
bytes_then [] ys a b = b
bytes_then (x ∷ xs) ys a b = (a.0, bytes_then xs ys a.1 b)

rest_before : (left new_left : Option (List ℕ)) (gave rest : List ℕ) → AreBytes gave → Consumes left new_left gave → (TellsBytes left → TellsBytes new_left) → IsRest new_left rest → IsRest left (gave ++ rest)
rest_before None None gave rest b h t k = bytes_then gave rest b k
rest_before None (Some ys) gave rest b h t k = bytes_then gave rest b (subst AreBytes k (t tt))
rest_before (Some xs) None gave rest b h t k = absurd h
rest_before (Some xs) (Some ys) gave rest b h t k = h ∙ ap (λ zs. gave ++ zs) k

all_rest : (left : Option (List ℕ)) (gave : List ℕ) → AreBytes gave → IsAll left gave → IsRest left gave
all_rest None gave b h = b
all_rest (Some xs) gave b h = h

none_rest : (left : Option (List ℕ)) (rest : List ℕ) → left ≡ Some [] → IsRest left rest → [] ≡ rest
none_rest left rest h k = let P : Option (List ℕ) → Type 0 = λ l. IsRest l rest in subst P h k

told : (kept new_kept : List ℕ) (left new_left : Option (List ℕ)) (r : Result Got ReadFault) (fault : Option ReadFault) → Answers kept left new_kept new_left r → KeepsFault r fault → (rest : List ℕ) → IsRest new_left rest → (before : List ℕ) × IsRest left before × Took r (kept ++ before) (kept_for fault new_kept ++ rest)
told kept new_kept left new_left r fault (inl g) f rest h =
    (g.gave ++ rest, rest_before left new_left g.gave rest g.bytes g.taken g.tells h, took r fault (kept ++ (g.gave ++ rest)) new_kept rest (kept ++ g.gave) f (g.answered rest) (sym (append_assoc kept g.gave rest)))
told kept new_kept left new_left r fault (inr g) f rest h =
    let none : [] ≡ rest = none_rest new_left rest g.none h in
    let empty : [] ≡ new_kept ++ rest = sym (ap (λ l. new_kept ++ l) (sym none) ∙ append-nil new_kept ∙ g.empty) in
    (g.gave, all_rest left g.gave g.bytes g.all, took r fault (kept ++ g.gave) new_kept rest (kept ++ g.gave) f (subst (λ l. Answered r l (read_denotation (kept ++ g.gave))) empty g.answered) (sym (ap (λ l. (kept ++ g.gave) ++ l) (sym none) ∙ append-nil (kept ++ g.gave))))

-- ---- the control

-- what a call of the reader gives
abbrev pub value_in : Result Got ReadFault → Result (Option values.Value) ReadFault
value_in (Ok (Value v)) = Ok (Some v)
value_in (Ok Om) = Ok None
value_in (Ok End) = Ok None
value_in (Err f) = Err f

-- and of a control
abbrev pub IsAfter : Result Got ReadFault → ControlState → ControlState → Type 0
IsAfter (Ok End) from to = to ≡ record from { eof = true; reader = to.reader }
IsAfter r from to = to ≡ record from { reader = to.reader }

-- a value that was read is pushed
found : (from to : ControlState) (before rest : List ℕ) (v : Option Datum) → from.reader.fault ≡ None → to ≡ record from { reader = to.reader } → read_denotation (from.reader.kept ++ before) ≡ Denotes v (kept_for to.reader.fault to.reader.kept ++ rest) → (line : ℕ) (k : CodeCore) → push_read (read_denotation (world_of from before).input) line (in_world (world_of from before) k) ≡ next (Pushed v ∷ k.now.operands) (in_world (world_of to rest) k)
found from to before rest v n a t line k =
    let w = world_of from before in
    let bytes = kept_for to.reader.fault to.reader.kept ++ rest in
    let d : read_denotation w.input ≡ Denotes v bytes = ap (λ f. read_denotation (kept_for f from.reader.kept ++ before)) n ∙ t in
    ap (λ r. push_read r line (in_world w k)) d
    ∙ ap (λ (s : ControlState). next (Pushed v ∷ k.now.operands) (in_world (record { input = bytes; eof = s.eof; atom = s.atom; left = s.turns }) k)) (sym a)

-- at the end of the input `om` is
ended : (from to : ControlState) (before rest : List ℕ) → from.reader.fault ≡ None → to ≡ record from { eof = true; reader = to.reader } → read_denotation (from.reader.kept ++ before) ≡ AtEnd → kept_for to.reader.fault to.reader.kept ++ rest ≡ [] → (line : ℕ) (k : CodeCore) → push_read (read_denotation (world_of from before).input) line (in_world (world_of from before) k) ≡ next (Pushed None ∷ k.now.operands) (in_world (world_of to rest) k)
ended from to before rest n a t none line k =
    let w = world_of from before in
    let bytes = kept_for to.reader.fault to.reader.kept ++ rest in
    let d : read_denotation w.input ≡ AtEnd = ap (λ f. read_denotation (kept_for f from.reader.kept ++ before)) n ∙ t in
    ap (λ r. push_read r line (in_world w k)) d
    ∙ ap (λ bs. next (Pushed None ∷ k.now.operands) (in_world (record { input = bs; eof = true; atom = from.atom; left = from.turns }) k)) (sym none)
    ∙ ap (λ (s : ControlState). next (Pushed None ∷ k.now.operands) (in_world (record { input = bytes; eof = s.eof; atom = s.atom; left = s.turns }) k)) (sym a)

-- bytes at fault were taken
ahead_of : (from to : ControlState) (before rest : List ℕ) → from.reader.fault ≡ None → to ≡ record from { reader = to.reader } → (taken : List ℕ) × (from.reader.kept ++ before ≡ taken ++ (kept_for to.reader.fault to.reader.kept ++ rest)) → IsBefore (world_of from before) (world_of to rest)
ahead_of from to before rest n a t = (
  t.0,
  ap (λ f. record (world_of from before) { input = kept_for f from.reader.kept ++ before }) n
      ∙ ap (λ bs. record (world_of from before) { input = bs }) t.1
      ∙ ap (λ (s : ControlState). record { input = t.0 ++ (kept_for to.reader.fault to.reader.kept ++ rest); eof = s.eof; atom = s.atom; left = s.turns }) (sym a),
)

read_as : (from : ControlState) (before : List ℕ) (r : Reading) → from.reader.fault ≡ None → read_denotation (from.reader.kept ++ before) ≡ r → read_denotation (world_of from before).input ≡ r
read_as from before r n t = ap (λ f. read_denotation (kept_for f from.reader.kept ++ before)) n ∙ t

taken : (r : Result Got ReadFault) (from to : ControlState) (before rest : List ℕ) → from.reader.fault ≡ None → IsAfter r from to → Took r (from.reader.kept ++ before) (kept_for to.reader.fault to.reader.kept ++ rest) → TakesIn (world_of from before) (world_of to rest) (value_in r)
taken (Ok (Value v)) from to before rest n a t = found from to before rest (Some (datum v)) n a t
taken (Ok Om) from to before rest n a t = found from to before rest None n a t
taken (Ok End) from to before rest n a t = ended from to before rest n a t.0 t.1
taken (Err Form) from to before rest n a t = (read_as from before NotForm n t.0, ahead_of from to before rest n a t.1)
taken (Err Wide) from to before rest n a t = (read_as from before TooWide n t.0, ahead_of from to before rest n a t.1)
taken (Err Deep) from to before rest n a t = (read_as from before TooDeep n t.0, ahead_of from to before rest n a t.1)
taken (Err Source) from to before rest n a t = tt
taken (Err NoMemory) from to before rest n a t = tt

keeps : (o : Option ReadFault) (P : Type 0) (Q : ReadFault → Type 0) → o ≡ None → MatchOption o P Q → P
keeps None P Q h m = m
keeps (Some f) P Q h m = absurd (cc)

taken_from : (from to : ControlState) (left new_left : Option (List ℕ)) (r s : Result Got ReadFault) (Q : ReadFault → Type 0) → r ≡ s → from.reader.fault ≡ None → (from.reader.fault ≡ None → Answers from.reader.kept left to.reader.kept new_left r) → MatchOption from.reader.fault (KeepsFault r to.reader.fault) Q → IsAfter s from to → (rest : List ℕ) → IsRest new_left rest → (before : List ℕ) × IsRest left before × TakesIn (world_of from before) (world_of to rest) (value_in s)
taken_from from to left new_left r s Q e n h f a rest i =
    let kept : KeepsFault s to.reader.fault = subst (λ x. KeepsFault x to.reader.fault) e (keeps from.reader.fault (KeepsFault r to.reader.fault) Q n f) in
    let w = told from.reader.kept to.reader.kept left new_left s to.reader.fault (subst (Answers from.reader.kept left to.reader.kept new_left) e (h n)) kept rest i in
    (w.0, w.1, taken s from to w.0 rest n a w.2)

-- what the reader tells of a control, which it is part of
pub taken_in : (now from to : ControlState) (left : Bool → Option (List ℕ)) (new_left : Option (List ℕ)) (r s : Result Got ReadFault) (Q : ReadFault → Type 0) → from ≡ now → r ≡ s → now.reader.fault ≡ None → (from.reader.fault ≡ None → Answers from.reader.kept (left from.reader.ended) to.reader.kept new_left r) → MatchOption from.reader.fault (KeepsFault r to.reader.fault) Q → IsAfter s from to → (rest : List ℕ) → IsRest new_left rest → (before : List ℕ) × IsRest (left now.reader.ended) before × TakesIn (world_of now before) (world_of to rest) (value_in s)
taken_in now from to left new_left r s Q v e n h f a rest i =
    let none : from.reader.fault ≡ None = ap (λ (s : ControlState). s.reader.fault) v ∙ n in
    subst (λ (d : ControlState). (before : List ℕ) × IsRest (left d.reader.ended) before × TakesIn (world_of d before) (world_of to rest) (value_in s)) v (taken_from from to (left from.reader.ended) new_left r s Q e none h f a rest i)
