-- Shapes of operands, and what each instruction makes of them.
use Rattle.std.specs.Prelude.{ℕ, zero, suc, Bool, true, false, ◌&&◌, List, [], ◌∷◌, length, slice_get, Option, Some, None}
use Rattle.setl_tree.specs.declared.tree.Passing.{Passing}
use Rattle.setl_tree.specs.declared.tree.Passing.TheVariants.{Rd, Wr, Rw}
use Rattle.setl_program.specs.Program.{Begin, Members, Points, Parameter}
use Rattle.setl_code.specs.Code.{Alteration, Putting, Combining, TakingOut, Instr, Push, PushAtom, PushEof, Load, Take, StoreIn, Operate, Alter, Decides, TestBool, Unless, Jump, DropTop, DupTop, PartsOf, BeginOver, NextOr, BeginOf, AddBelow, LeaveAll, PayRound, CallBody, ReturnTop, KeepAll, GoBack, ForgetKept, PrintTop, ReadOne, StopRun, Body}

pub data Kind : Type 0 where
  AResult ACollection AnIterator APairIterator : Kind

-- The kinds of the operands, the top first.
abbrev pub Shape : Type 0
Shape = List Kind

-- whether the first kind may stand where the second is said: a collection serves as a result
abbrev pub serves : Kind → Kind → Bool
serves AResult AResult = true
serves ACollection AResult = true
serves ACollection ACollection = true
serves AnIterator AnIterator = true
serves APairIterator APairIterator = true
serves k l = false

abbrev pub all_serve : Shape → Shape → Bool
all_serve [] [] = true
all_serve (k ∷ ks) (l ∷ ls) = serves k l && all_serve ks ls
all_serve ks ls = false

-- ---- what is popped and pushed

-- without so many results on top
abbrev pub without_results : ℕ → Shape → Option Shape
without_results zero s = Some s
without_results (suc n) (AResult ∷ s) = without_results n s
without_results (suc n) (ACollection ∷ s) = without_results n s
without_results (suc n) s = None

-- without so many iterators on top
abbrev pub without_levels : ℕ → Shape → Option Shape
without_levels zero s = Some s
without_levels (suc n) (AnIterator ∷ s) = without_levels n s
without_levels (suc n) (APairIterator ∷ s) = without_levels n s
without_levels (suc n) s = None

-- whether a collection is on top
abbrev pub if_collection : Shape → Option Shape → Option Shape
if_collection (ACollection ∷ s) whole = whole
if_collection s whole = None

abbrev pub after : Option Shape → (Shape → Option Shape) → Option Shape
after None f = None
after (Some s) f = f s

abbrev pub results : ℕ → Shape → Shape
results zero s = s
results (suc n) s = AResult ∷ results n s

abbrev pub one_more : Passing → ℕ → ℕ
one_more Rd n = n
one_more Wr n = suc n
one_more Rw n = suc n

-- the number of parameters that are handed back
abbrev pub handed : List Parameter → ℕ
handed [] = zero
handed (p ∷ ps) = one_more p.passing (handed ps)

-- ---- where an instruction leads

-- Places with the shapes there; or the shape lacks what is popped.
abbrev pub Outs : Type 0
Outs = Option (List (ℕ × Shape))

abbrev pub lead : Option Shape → (Shape → List (ℕ × Shape)) → Outs
lead None f = None
lead (Some s) f = Some (f s)

-- to one place, where so many results are pushed
abbrev pub on_to : ℕ → ℕ → Option Shape → Outs
on_to to pushed s = lead s (λ t. (to, results pushed t) ∷ [])

abbrev pub iterator_kind : Begin → Kind
iterator_kind Points = APairIterator
iterator_kind (Members k) = AnIterator

-- the next item, or the end
abbrev pub next_outs : ℕ → ℕ → Shape → Outs
next_outs at to (AnIterator ∷ s) = Some ((at, AResult ∷ AnIterator ∷ s) ∷ (to, s) ∷ [])
next_outs at to (APairIterator ∷ s) = Some ((at, AResult ∷ AResult ∷ APairIterator ∷ s) ∷ (to, s) ∷ [])
next_outs at to s = None

abbrev pub call_outs : Option Body → ℕ → Shape → Outs
call_outs None at s = None
call_outs (Some b) at s = on_to at (suc (handed b.parameters)) (without_results (length b.parameters) s)

abbrev pub alter_outs : Alteration → ℕ → Option Shape → Outs
alter_outs Putting at s = on_to at 0 (after s (without_results 1))
alter_outs (Combining o) at s = on_to at 0 (after s (without_results 1))
alter_outs (TakingOut k) at s = on_to at 1 s

-- where an instruction leads from a shape; `at` is the next step
abbrev pub outs : List Body → Instr → ℕ → Shape → Outs
outs bs (Push v) at s = on_to at 1 (Some s)
outs bs PushAtom at s = on_to at 1 (Some s)
outs bs PushEof at s = on_to at 1 (Some s)
outs bs (Load x) at s = on_to at 1 (Some s)
outs bs (Take x) at s = on_to at 1 (Some s)
outs bs (StoreIn x) at s = on_to at 0 (without_results 1 s)
outs bs (Operate o n) at s = on_to at 1 (without_results n s)
outs bs (Alter a x ks) at s = alter_outs a at (without_results (length ks) s)
outs bs (Decides k to) at s = lead (without_results 1 s) (λ t. (at, t) ∷ (to, AResult ∷ t) ∷ [])
outs bs TestBool at s = on_to at 1 (without_results 1 s)
outs bs (Unless to) at s = lead (without_results 1 s) (λ t. (at, t) ∷ (to, t) ∷ [])
outs bs (Jump to) at s = on_to to 0 (Some s)
outs bs DropTop at s = on_to at 0 (without_results 1 s)
outs bs DupTop at s = on_to at 2 (without_results 1 s)
outs bs (PartsOf n) at s = on_to at n (without_results 1 s)
outs bs (BeginOver b n) at s = lead (without_results n s) (λ t. (at, iterator_kind b ∷ t) ∷ [])
outs bs (NextOr to) at s = next_outs at to s
outs bs (BeginOf k) at s = Some ((at, ACollection ∷ s) ∷ [])
outs bs (AddBelow n) at s = on_to at 0 (after (without_results 1 s) (λ t. after (without_levels n t) (λ u. if_collection u (Some t))))
outs bs (LeaveAll n) at s = on_to at 0 (without_levels n s)
outs bs PayRound at s = on_to at 0 (Some s)
outs bs (CallBody n) at s = call_outs (slice_get bs n) at s
outs bs ReturnTop at s = lead (without_results 1 s) (λ t. [])
outs bs KeepAll at s = on_to at 1 (Some s)
outs bs GoBack at s = Some []
outs bs ForgetKept at s = on_to at 0 (Some s)
outs bs (PrintTop n) at s = on_to at 0 (without_results n s)
outs bs ReadOne at s = on_to at 1 (Some s)
outs bs StopRun at s = Some []

-- ---- the order of steps

-- the steps that may come after an instruction in its body
abbrev pub successors : Instr → ℕ → List ℕ
successors (Decides k to) at = at ∷ to ∷ []
successors (Unless to) at = at ∷ to ∷ []
successors (NextOr to) at = at ∷ to ∷ []
successors (Jump to) at = to ∷ []
successors ReturnTop at = []
successors GoBack at = []
successors StopRun at = []
successors i at = at ∷ []

-- those that come without a turn
abbrev pub free_successors : Instr → ℕ → List ℕ
free_successors PayRound at = []
free_successors PushAtom at = []
free_successors (CallBody n) at = []
free_successors (NextOr to) at = to ∷ []
free_successors i at = successors i at
