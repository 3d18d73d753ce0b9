-- A path over the steps of a body is one over its plain steps.
use Rattle.std.proofs.Common.{◌≡◌, ◌∙◌, ◌<◌, ◌+◌, ℕ, zero, suc, List, [], ◌∷◌, map, length, Some, refl, sym, ap, subst, arith}
use Rattle.std.specs.Prelude.{slice_get}
use Rattle.std.specs.List.{Contains}
use Rattle.setl_model_runs.specs.Variable.{Variable, Global}
use Rattle.setl_code.specs.declared.code.Instr.{Instr}
use Rattle.setl_code.specs.declared.code.Instr.TheVariants as i
use Rattle.setl_code.specs.declared.code.Step.{Step}
use Rattle.setl_code.specs.declared.code.Body.{Body}
use Rattle.setl_code.specs.Code as plain
use Rattle.setl_code.specs.Plain.{own_variables, variable_at, Variables, plain_instr, plain_step, plain_body}
use Rattle.setl_code.specs.MayRun.{InstrFits, StepsFit, Differ}
use Rattle.setl_code.specs.Shapes.{successors}
use Rattle.setl_code.specs.Sound.{is_read, is_written, ReadLater, reads, later}
use Rattle.setl_live_reads.specs.declared.node.Node.{Node}
use Rattle.setl_live_reads.specs.Paths.{reads_slot, writes_slot, ways}
use Rattle.setl_live_reads.specs.Paths as nodes
use Rattle.setl_live.specs.Nodes.{way, node, handed}
use Rattle.setl_live.proofs.OwnSlots.{same_read, same_written}

-- ---- lists

-- what stands in a mapped list comes from an item
pub record Mapped {A B : Type 0} (f : A → B) (xs : List A) (at : ℕ) (y : B) : Type 0 where
  pub item : A
  pub is : slice_get xs at ≡ Some item
  pub gives : f item ≡ y

pub mapped_from : {A B : Type 0} (f : A → B) (xs : List A) (at : ℕ) (y : B) → slice_get (map f xs) at ≡ Some y → Mapped f xs at y
mapped_from f [] at y h = cc
mapped_from f (x ∷ xs) zero y h = let same : f x ≡ y = cc in record { item = x; is = refl; gives = same }
mapped_from f (x ∷ xs) (suc at) y h = let m = mapped_from f xs at y h in record { item = m.item; is = m.is; gives = m.gives }

pub mapped_to : {A B : Type 0} (f : A → B) (xs : List A) (at : ℕ) (x : A) → slice_get xs at ≡ Some x → slice_get (map f xs) at ≡ Some (f x)
mapped_to f [] at x h = cc
mapped_to f (y ∷ xs) zero x h = let same : y ≡ x = cc in ap (λ z. Some (f z)) same
mapped_to f (y ∷ xs) (suc at) x h = mapped_to f xs at x h

pub fits_at : (g o : ℕ) (ss : List Step) (at : ℕ) (s : Step) → StepsFit g o ss → slice_get ss at ≡ Some s → InstrFits g o s.what
fits_at g o [] at s fit h = cc
fits_at g o (t ∷ ss) zero s fit h = let same : t ≡ s = cc in subst (λ (u : Step). InstrFits g o u.what) same fit.0
fits_at g o (t ∷ ss) (suc at) s fit h = fits_at g o ss at s fit.1 h

-- ---- where steps lead

next_is : (at : ℕ) → suc at ≡ at + 1
next_is at = omega arith

same_ways : (xs : Variables) (what : Instr) (at : ℕ) → successors (plain_instr xs what) at ≡ ways (way what) at
same_ways xs what at = go what
  where
    go : (w : Instr) → successors (plain_instr xs w) at ≡ ways (way w) at
    go (i.Decide k to) = refl
    go (i.Unless to) = refl
    go (i.Next to) = refl
    go (i.Jump to) = refl
    go i.Return = refl
    go i.Back = refl
    go i.Stop = refl
    go w = refl

-- ---- paths

module _ (vars : List (List ℕ)) (n : ℕ) (b : Body) (differ : Differ (own_variables n b.parameters b.names)) (fit : StepsFit (length vars) (length (own_variables n b.parameters b.names)) b.steps) (k : ℕ) (within : k < length (own_variables n b.parameters b.names)) where
  abbrev xs : Variables
  xs = record { global = map Global vars; own = own_variables n b.parameters b.names }

  abbrev x : Variable
  x = variable_at (own_variables n b.parameters b.names) k

  abbrev whole : plain.Body
  whole = plain_body (map Global vars) n b

  pub to_nodes : (at : ℕ) → ReadLater n whole x at → nodes.ReadLater (map node b.steps) (handed b.parameters) k at
  to_nodes at (reads {line = line} {i = what} is read) =
      let m = mapped_from (plain_step xs) b.steps at (line, what) is in
      let same : plain_instr xs m.item.what ≡ what = ap (λ (s : plain.Step). s.1) m.gives in
      nodes.reads (mapped_to node b.steps at m.item m.is) (sym (same_read vars n b differ k within m.item.what (fits_at _ _ b.steps at m.item fit m.is)) ∙ ap (λ (w : plain.Instr). is_read n whole w x) same ∙ read)
  to_nodes at (later {line = line} {to = to} {i = what} is kept way_ more) =
      let m = mapped_from (plain_step xs) b.steps at (line, what) is in
      let same : plain_instr xs m.item.what ≡ what = ap (λ (s : plain.Step). s.1) m.gives in
      nodes.later (mapped_to node b.steps at m.item m.is)
      (sym (same_written vars n b differ k within m.item.what (fits_at _ _ b.steps at m.item fit m.is)) ∙ ap (λ (w : plain.Instr). is_written w x) same ∙ kept)
      (subst (λ (a : ℕ). Contains (ways (way m.item.what) a) to) (next_is at) (subst (λ (ws : List ℕ). Contains ws to) (sym (ap (λ (w : plain.Instr). successors w (suc at)) same) ∙ same_ways xs m.item.what (suc at)) way_))
      (to_nodes to more)

  pub from_nodes : (at : ℕ) → nodes.ReadLater (map node b.steps) (handed b.parameters) k at → ReadLater n whole x at
  from_nodes at (nodes.reads {node = what} is read) =
      let m = mapped_from node b.steps at what is in
      reads (mapped_to (plain_step xs) b.steps at m.item m.is) (same_read vars n b differ k within m.item.what (fits_at _ _ b.steps at m.item fit m.is) ∙ ap (λ (w : Node). reads_slot (handed b.parameters) w.access k) m.gives ∙ read)
  from_nodes at (nodes.later {to = to} {node = what} is kept way_ more) =
      let m = mapped_from node b.steps at what is in
      later (mapped_to (plain_step xs) b.steps at m.item m.is)
      (same_written vars n b differ k within m.item.what (fits_at _ _ b.steps at m.item fit m.is) ∙ ap (λ (w : Node). writes_slot w.access k) m.gives ∙ kept)
      (subst (λ (ws : List ℕ). Contains ws to) (sym (same_ways xs m.item.what (suc at))) (subst (λ (a : ℕ). Contains (ways (way m.item.what) a) to) (sym (next_is at)) (subst (λ (w : Node). Contains (ways w.way (at + 1)) to) (sym m.gives) way_)))
      (from_nodes to more)
