-- Calls in a row are a call.
use Rattle.std.proofs.Common.{◌≡◌, ◌∙◌, ◌⊎◌, inl, inr, ◌+◌, ◌-◌, ◌≤◌, ℕ, List, [], ◌++◌, take, Option, None, Some, refl, sym, ap, subst, append_assoc, arith}
use Rattle.std.proofs.lemmas.List.{append-nil}
use Rattle.std.specs.Io.KnownBytes.{Appends, append_known}
use Rattle.setl_io.specs.Faults.{Rose}
use Rattle.setl_model_runs.specs.Run.{State, Next, Goes, Ends, settle, step, run}
use Rattle.setl_code.specs.Code.{Code}
use Rattle.setl_code.specs.CodeCore.{Popped, Pops, Lacks, popped, CodeCore}
use Rattle.setl_code.specs.Machine.{machine, do_step, on_popped, print_values}
use Rattle.setl_machine_control.specs.Declaring.{Modes, tested}
use Rattle.setl_machine_control.specs.Answers.{start, said, Answers}
use Rattle.setl_machine.specs.Outcome.{last, Seen, NoFault, Steps, AtPrint, AtRead, Before, Ran, ReadsOnly}
use Rattle.setl_machine_control.specs.declared.end.End.{End}
use Rattle.setl_machine_control.specs.declared.end.End.TheVariants.{Done, Stopped, Spent, Paused, ReadFault, WriteFault, NoMemory, Stuck}
use Rattle.setl_machine.proofs.RunLaws.{behind, all_behind, run_joined, run_ended, run_one}
use Rattle.setl_machine.proofs.Silence.{says_nothing}

-- ---- the bytes held

pub appends_then : (old mid new : Option (List ℕ)) (xs ys : List ℕ) → Appends old mid xs → Appends mid new ys → Appends old new (xs ++ ys)
appends_then None mid new xs ys h k = tt
appends_then (Some a) None new xs ys h k = absurd h
appends_then (Some a) (Some b) None xs ys h k = absurd k
appends_then (Some a) (Some b) (Some c) xs ys h k = k ∙ ap (λ bs. bs ++ ys) h ∙ append_assoc a xs ys

-- what came behind what a state wrote
known_joined : (old mid new : Option (List ℕ)) (xs ys zs : List ℕ) → Appends old mid xs → Appends (append_known mid ys) new zs → Appends (append_known old (xs ++ ys)) new zs
known_joined None mid new xs ys zs h k = tt
known_joined (Some a) None new xs ys zs h k = absurd h
known_joined (Some a) (Some b) None xs ys zs h k = absurd k
known_joined (Some a) (Some b) (Some c) xs ys zs h k = k ∙ ap (λ bs. bs ++ zs) (ap (λ bs. bs ++ ys) h ∙ append_assoc a xs ys)

known_none : (old new : Option (List ℕ)) (zs : List ℕ) → Appends old new zs → Appends (append_known old []) new zs
known_none None new zs h = tt
known_none (Some a) None zs h = absurd h
known_none (Some a) (Some b) zs h = h ∙ ap (λ bs. bs ++ zs) (sym (append-nil a))

-- what came behind the output of a state, beside that output
known_behind : (old new : Option (List ℕ)) (xs ys : List ℕ) → Appends (append_known old xs) new ys → Appends old new (xs ++ ys)
known_behind None new xs ys h = tt
known_behind (Some a) None xs ys h = absurd h
known_behind (Some a) (Some b) xs ys h = h ∙ append_assoc a xs ys

-- more behind a front, and a front behind more
front_then : (old mid new : Option (List ℕ)) (xs ys zs : List ℕ) → Appends old mid (xs ++ ys) → Appends mid new zs → Appends old new (xs ++ (ys ++ zs))
front_then old mid new xs ys zs h k = subst (λ bs. Appends old new bs) (append_assoc xs ys zs) (appends_then old mid new (xs ++ ys) zs h k)

then_front : (old mid new : Option (List ℕ)) (xs ys zs : List ℕ) → Appends old mid xs → Appends mid new (ys ++ zs) → Appends old new ((xs ++ ys) ++ zs)
then_front old mid new xs ys zs h k = subst (λ bs. Appends old new bs) (sym (append_assoc xs ys zs)) (appends_then old mid new xs (ys ++ zs) h k)

-- ---- a `print` in hand

kept_by : (modes : Modes) (c : Code) (k : CodeCore) (p : Popped) → (last (settle (machine c) (tested modes) (start k) (on_popped p (λ vs xs. print_values vs xs k)))).world.input ≡ k.world.input
kept_by modes c k Lacks = refl
kept_by modes c k (Pops vs xs) = refl

-- it leaves the input as it is
print_keeps : (modes : Modes) (c : Code) (k : CodeCore) → AtPrint c k → (last (step (machine c) (tested modes) (start k))).world.input ≡ k.world.input
print_keeps modes c k h =
    ap (λ o. (last (settle (machine c) (tested modes) (start k) (do_step c o k))).world.input) h.2 ∙ kept_by modes c k (popped h.1 [] k.now.operands)

-- ---- behind a state

said_behind : (s : State CodeCore) (x : Next CodeCore) → said (all_behind s x) ≡ s.out ++ said x
said_behind s (Goes t) = refl
said_behind s (Ends e t) = refl

-- the state that a call came to
pub record Came (x : Next CodeCore) (old new : Seen) (k : CodeCore) : Type 0 where
  pub state : State CodeCore
  pub goes : x ≡ Goes state
  pub core : state.core ≡ k
  pub bytes : Appends old.held new.held state.out
  pub count : NoFault old new

pub came : (modes : Modes) (x : Next CodeCore) (old new : Seen) (k : CodeCore) → Steps modes x old new k Paused → Came x old new k
came modes (Goes s) old new k h = record { state = s; goes = refl; core = h.0; bytes = h.1; count = h.2 }
came modes (Ends e s) old new k h = absurd h.0

-- the answers of a code that goes on or ends
abbrev Plain : Modes → Next CodeCore → Seen → Seen → CodeCore → End → Type 0
Plain modes x old new k e = Answers modes x k e × Appends old.held new.held (said x) × NoFault old new

answers_behind : (modes : Modes) (s : State CodeCore) (x : Next CodeCore) (k : CodeCore) (e : End) → Answers modes x k e → Answers modes (all_behind s x) k e
answers_behind modes s (Goes t) k Paused h = h
answers_behind modes s (Ends d t) k Done h = h
answers_behind modes s (Ends d t) k (Stopped why line) h = h
answers_behind modes s (Ends d t) k Spent h = h
answers_behind modes s (Ends d t) k Stuck h = h
answers_behind modes s (Goes t) k Done h = absurd h
answers_behind modes s (Goes t) k (Stopped why line) h = absurd h
answers_behind modes s (Goes t) k Spent h = absurd h
answers_behind modes s (Goes t) k Stuck h = absurd h
answers_behind modes s (Goes t) k ReadFault h = absurd h
answers_behind modes s (Goes t) k WriteFault h = absurd h
answers_behind modes s (Goes t) k NoMemory h = absurd h
answers_behind modes s (Ends d t) k Paused h = absurd h
answers_behind modes s (Ends d t) k ReadFault h = absurd h
answers_behind modes s (Ends d t) k WriteFault h = absurd h
answers_behind modes s (Ends d t) k NoMemory h = absurd h

no_fault_then : (old mid new : Seen) → NoFault old mid → NoFault mid new → NoFault old new
no_fault_then old mid new h k = (k.0 ∙ h.0, k.1 ∙ h.1)

plain_behind : (modes : Modes) (s : State CodeCore) (x y : Next CodeCore) (old mid new : Seen) (k : CodeCore) (e : End) → y ≡ all_behind s x → Appends old.held mid.held s.out → NoFault old mid → Plain modes x mid new k e → Plain modes y old new k e
plain_behind modes s x y old mid new k e j w c p =
    let all : Plain modes (all_behind s x) old new k e = (answers_behind modes s x k e p.0, subst (λ bs. Appends old.held new.held bs) (sym (said_behind s x)) (appends_then old.held mid.held new.held s.out (said x) w p.1), no_fault_then old mid new c p.2) in
    subst (λ z. Plain modes z old new k e) (sym j) all

before_joined : (modes : Modes) (c : Code) (n j : ℕ) (from k : CodeCore) (s t : State CodeCore) (line : List ℕ) → run (machine c) (tested modes) n (start from) ≡ Goes s → s.core ≡ k → Before modes c j k t line → Before modes c (n + j) from (behind s t) line
before_joined modes c n j from k s t line h e b = record {
  after = n + b.after;
  fewer = omega (arith, b.fewer);
  reached = run_joined (machine c) (tested modes) n b.after (start from) s h ∙ ap (all_behind s) (ap (λ d. run (machine c) (tested modes) b.after (start d)) e ∙ b.reached);
  says = b.says;
}

before_longer : (modes : Modes) (c : Code) (n k : ℕ) (from : CodeCore) (s : State CodeCore) (line : List ℕ) → n ≤ k → Before modes c n from s line → Before modes c k from s line
before_longer modes c n k from s line h b = record { after = b.after; fewer = omega (arith, b.fewer); reached = b.reached; says = b.says }

-- ---- calls

-- Two calls in a row, of which the first paused, are a call.
pub ran_join : (modes : Modes) (c : Code) (n j : ℕ) (from mid to : CodeCore) (old now new : Seen) (e : End) → Ran modes c n from old now mid Paused → Ran modes c j mid now new to e → Ran modes c (n + j) from old new to e
ran_join modes c n j from mid to old now new e p q = go e q
  where
    w : Came (run (machine c) (tested modes) n (start from)) old now mid
    w = came modes (run (machine c) (tested modes) n (start from)) old now mid p

    whole : run (machine c) (tested modes) (n + j) (start from) ≡ all_behind w.state (run (machine c) (tested modes) j (start mid))
    whole = run_joined (machine c) (tested modes) n j (start from) w.state w.goes ∙ ap (λ k. all_behind w.state (run (machine c) (tested modes) j (start k))) w.core

    plain : (e : End) → Plain modes (run (machine c) (tested modes) j (start mid)) now new to e → Plain modes (run (machine c) (tested modes) (n + j) (start from)) old new to e
    plain e q = plain_behind modes w.state (run (machine c) (tested modes) j (start mid)) (run (machine c) (tested modes) (n + j) (start from)) old now new to e whole w.bytes w.count q

    before : (s : State CodeCore) (line : List ℕ) → Before modes c j mid s line → Before modes c (n + j) from (behind w.state s) line
    before s line b = before_joined modes c n j from mid w.state s line w.goes w.core b

    go : (e : End) → Ran modes c j mid now new to e → Ran modes c (n + j) from old new to e
    go Done q = plain Done q
    go (Stopped why line) q = plain (Stopped why line) q
    go Spent q = plain Spent q
    go Stuck q = plain Stuck q
    go Paused q = plain Paused q
    go ReadFault q =
        (behind w.state q.0, q.1, before q.0 q.1 q.2, q.3, appends_then old.held now.held new.held w.state.out (q.0).out w.bytes q.4, subst (λ i. Rose i new.input_faults) w.count.1 q.5, q.6 ∙ w.count.0)
    go WriteFault q =
        let r = q.4 in
        (behind w.state q.0, q.1, before q.0 q.1 q.2, q.3, (r.0, r.1, known_joined old.held now.held new.held w.state.out (q.0).out (take r.0 q.1) w.bytes r.2), subst (λ i. Rose i new.faults) w.count.0 q.5, q.6 ∙ w.count.1, q.7)
    go NoMemory q =
        let r = q.4 in
        (behind w.state q.0, q.1, before q.0 q.1 q.2, q.3, (r.0, r.1, known_joined old.held now.held new.held w.state.out (q.0).out (take r.0 q.1) w.bytes r.2), no_fault_then old now new w.count q.5)

-- A step is a call of one step.
pub ran_one : (modes : Modes) (c : Code) (from to : CodeCore) (old new : Seen) (e : End) → (e ≡ ReadFault → AtRead c from) → (e ≡ WriteFault → AtPrint c from) → Steps modes (step (machine c) (tested modes) (start from)) old new to e → Ran modes c 1 from old new to e
ran_one modes c from to old new e reads writes h = go e reads writes h
  where
    line : List ℕ
    line = said (step (machine c) (tested modes) (start from))

    one : (e : End) → Plain modes (step (machine c) (tested modes) (start from)) old new to e → Plain modes (run (machine c) (tested modes) 1 (start from)) old new to e
    one e p = subst (λ x. Plain modes x old new to e) (sym (run_one (machine c) (tested modes) (start from))) p

    before : Before modes c 1 from (start from) (said (step (machine c) (tested modes) (start from)))
    before = record { after = 0; fewer = omega arith; reached = refl; says = refl }

    go : (e : End) → (e ≡ ReadFault → AtRead c from) → (e ≡ WriteFault → AtPrint c from) → Steps modes (step (machine c) (tested modes) (start from)) old new to e → Ran modes c 1 from old new to e
    go Done reads writes p = one Done p
    go (Stopped why line) reads writes p = one (Stopped why line) p
    go Spent reads writes p = one Spent p
    go Stuck reads writes p = one Stuck p
    go Paused reads writes p = one Paused p
    go ReadFault reads writes p = (start from, said (step (machine c) (tested modes) (start from)), before, reads refl, p.0, p.1, p.2)
    go WriteFault reads writes p =
        let r = p.0 in
        (start from, said (step (machine c) (tested modes) (start from)), before, writes refl, (r.0, r.1, known_none old.held new.held (take r.0 (said (step (machine c) (tested modes) (start from)))) r.2), p.1, p.2, p.3 ∙ print_keeps modes c from (writes refl))
    go NoMemory reads writes p =
        let r = p.0 in
        (start from, said (step (machine c) (tested modes) (start from)), before, says_nothing modes c from, (r.0, r.1, known_none old.held new.held (take r.0 (said (step (machine c) (tested modes) (start from)))) r.2), p.1)

-- A call that ended is one of more steps.
pub ran_longer : (modes : Modes) (c : Code) (n k : ℕ) (from to : CodeCore) (old new : Seen) (e : End) → (e ≡ Paused → ⊥) → n ≤ k → Ran modes c n from old new to e → Ran modes c k from old new to e
ran_longer modes c n k from to old new e ne le p = go e ne p
  where
    total : n + (k - n) ≡ k
    total = omega arith

    longer : (x : Next CodeCore) (e : End) → run (machine c) (tested modes) n (start from) ≡ x → (e ≡ Paused → ⊥) → Plain modes x old new to e → Plain modes (run (machine c) (tested modes) k (start from)) old new to e
    longer (Ends d s) e h ne p = subst (λ x. Plain modes x old new to e) (sym (ap (λ j. run (machine c) (tested modes) j (start from)) (sym total) ∙ run_ended (machine c) (tested modes) n (k - n) (start from) d s h)) p
    longer (Goes s) Paused h ne p = absurd (ne refl)
    longer (Goes s) Done h ne p = absurd p.0
    longer (Goes s) (Stopped why line) h ne p = absurd p.0
    longer (Goes s) Spent h ne p = absurd p.0
    longer (Goes s) Stuck h ne p = absurd p.0
    longer (Goes s) ReadFault h ne p = absurd p.0
    longer (Goes s) WriteFault h ne p = absurd p.0
    longer (Goes s) NoMemory h ne p = absurd p.0

    go : (e : End) → (e ≡ Paused → ⊥) → Ran modes c n from old new to e → Ran modes c k from old new to e
    go Done ne p = longer (run (machine c) (tested modes) n (start from)) Done refl ne p
    go (Stopped why line) ne p = longer (run (machine c) (tested modes) n (start from)) (Stopped why line) refl ne p
    go Spent ne p = longer (run (machine c) (tested modes) n (start from)) Spent refl ne p
    go Stuck ne p = longer (run (machine c) (tested modes) n (start from)) Stuck refl ne p
    go Paused ne p = absurd (ne refl)
    go ReadFault ne p = (p.0, p.1, before_longer modes c n k from p.0 p.1 le p.2, p.3, p.4, p.5, p.6)
    go WriteFault ne p = (p.0, p.1, before_longer modes c n k from p.0 p.1 le p.2, p.3, p.4, p.5, p.6, p.7)
    go NoMemory ne p = (p.0, p.1, before_longer modes c n k from p.0 p.1 le p.2, p.3, p.4, p.5)

-- A call that gives up where another one came to is one of a step more.
known_appended : (old new : Option (List ℕ)) (xs : List ℕ) → Appends old new xs → Appends (append_known old xs) new []
known_appended None new xs h = tt
known_appended (Some a) None xs h = absurd h
known_appended (Some a) (Some b) xs h = h ∙ sym (append-nil (a ++ xs))

pub ran_gives_up : (modes : Modes) (c : Code) (n : ℕ) (from mid to : CodeCore) (old new : Seen) → Ran modes c n from old new mid Paused → Ran modes c (n + 1) from old new to NoMemory
ran_gives_up modes c n from mid to old new p =
    let w : Came (run (machine c) (tested modes) n (start from)) old new mid = came modes (run (machine c) (tested modes) n (start from)) old new mid p in
    let line = said (step (machine c) (tested modes) (start w.state.core)) in
    (w.state, line, record { after = n; fewer = omega arith; reached = w.goes; says = refl }, says_nothing modes c w.state.core, (0, omega arith, known_appended old.held new.held w.state.out w.bytes), w.count)

-- ---- the output

-- the output only grows
ran_gains : (modes : Modes) (c : Code) (n : ℕ) (from to : CodeCore) (old new : Seen) (e : End) → Ran modes c n from old new to e → (xs : List ℕ) × Appends old.held new.held xs
ran_gains modes c n from to old new Done p = (said (run (machine c) (tested modes) n (start from)), p.1)
ran_gains modes c n from to old new (Stopped why line) p = (said (run (machine c) (tested modes) n (start from)), p.1)
ran_gains modes c n from to old new Spent p = (said (run (machine c) (tested modes) n (start from)), p.1)
ran_gains modes c n from to old new Stuck p = (said (run (machine c) (tested modes) n (start from)), p.1)
ran_gains modes c n from to old new Paused p = (said (run (machine c) (tested modes) n (start from)), p.1)
ran_gains modes c n from to old new ReadFault p = ((p.0).out, p.4)
ran_gains modes c n from to old new WriteFault p =
    let r = p.4 in
    ((p.0).out ++ take r.0 p.1, known_behind old.held new.held (p.0).out (take r.0 p.1) r.2)
ran_gains modes c n from to old new NoMemory p =
    let r = p.4 in
    ((p.0).out ++ take r.0 p.1, known_behind old.held new.held (p.0).out (take r.0 p.1) r.2)

-- ---- reads

-- the bytes taken of the input by one step
pub reads_one : (modes : Modes) (c : Code) (from to : CodeCore) (old new : Seen) (e : End) (left new_left : Option (List ℕ)) → Ran modes c 1 from old new to e → (new_left ≡ left) ⊎ AtRead c from → ReadsOnly modes c 1 from old.held new.held left new_left
reads_one modes c from to old new e left new_left p (inl h) = inl h
reads_one modes c from to old new e left new_left p (inr h) =
    let gained = ran_gains modes c 1 from to old new e p in
    inr (start from, said (step (machine c) (tested modes) (start from)), record { after = 0; fewer = omega arith; reached = refl; says = refl }, h, gained.0, gained.1)

-- the bytes taken of the input by two calls in a row
pub reads_join : (modes : Modes) (c : Code) (n j : ℕ) (from mid to : CodeCore) (old now new : Seen) (e : End) (left then_left new_left : Option (List ℕ)) → Ran modes c n from old now mid Paused → Ran modes c j mid now new to e → ReadsOnly modes c n from old.held now.held left then_left → ReadsOnly modes c j mid now.held new.held then_left new_left → ReadsOnly modes c (n + j) from old.held new.held left new_left
reads_join modes c n j from mid to old now new e left then_left new_left p q h k = go h k
  where
    w : Came (run (machine c) (tested modes) n (start from)) old now mid
    w = came modes (run (machine c) (tested modes) n (start from)) old now mid p

    gained : (xs : List ℕ) × Appends now.held new.held xs
    gained = ran_gains modes c j mid to now new e q

    go : ReadsOnly modes c n from old.held now.held left then_left → ReadsOnly modes c j mid now.held new.held then_left new_left → ReadsOnly modes c (n + j) from old.held new.held left new_left
    go (inl h) (inl k) = inl (k ∙ h)
    go (inr h) k =
        inr (h.0, h.1, before_longer modes c n (n + j) from h.0 h.1 (omega arith) h.2, h.3, h.4 ++ gained.0, front_then old.held now.held new.held (h.0).out h.4 gained.0 h.5 gained.1)
    go (inl h) (inr k) =
        inr (behind w.state k.0, k.1, before_joined modes c n j from mid w.state k.0 k.1 w.goes w.core k.2, k.3, k.4, then_front old.held now.held new.held w.state.out (k.0).out k.4 w.bytes k.5)

pub reads_longer : (modes : Modes) (c : Code) (n k : ℕ) (from : CodeCore) (held new_held left new_left : Option (List ℕ)) → n ≤ k → ReadsOnly modes c n from held new_held left new_left → ReadsOnly modes c k from held new_held left new_left
reads_longer modes c n k from held new_held left new_left le (inl h) = inl h
reads_longer modes c n k from held new_held left new_left le (inr h) = inr (h.0, h.1, before_longer modes c n k from h.0 h.1 le h.2, h.3, h.4, h.5)
