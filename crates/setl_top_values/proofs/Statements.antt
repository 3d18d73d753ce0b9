-- What the forms of statements become has values for literals, where their parts do.
use Rattle.std.proofs.Common.{ℕ, List, [], ◌∷◌, map, Option, Some, None}
use Rattle.setl_tree.specs.declared.expr.BinaryOp.{BinaryOp}
use Rattle.setl_tree.specs.declared.expr.Slot.{Slot}
use Rattle.setl_tree.specs.declared.stmt.FromEnd.{FromEnd}
use Rattle.setl_tree.specs.declared.stmt.Place.{Place as Target}
use Rattle.setl_tree.specs.declared.tree.Param.{Param}
use Rattle.setl_names.specs.Names.{Name as Word}
use Rattle.setl_program.specs.Program.{Stmt}
use Rattle.setl_program.specs.Scope.{procedure_of}
use Rattle.setl_program.specs.Expressions as q
use Rattle.setl_program.specs.Statements as qs
use Rattle.setl_top_values.proofs.Languages.{Each, Maybe}
use Rattle.setl_top_values.proofs.Standing.{PlaceStands, StmtStands, BeforeSelectors, LinedStands, BeforeBlock, exprs_stand, iterators_stand, selectors_stand, block_stands, otherwise_stands}
use Rattle.setl_top_values.proofs.Parts.{Makes, PartStands, IterStands, BehindStands, terms_stand, turns_stand}
use Rattle.setl_top_values.proofs.Selections.{call_stands}

pub record KindStands (k : qs.Kind) : Type 0 where
  pub made : (line : ℕ) → Makes StmtStands (k line)

pub record LineStands (x : qs.Lined) : Type 0 where
  pub made : Makes LinedStands x

pub record GuardedStands (g : qs.Guarded) : Type 0 where
  pub test : PartStands g.test
  pub body : Each LineStands g.body

-- ---- places

selectors_made : (bs : List q.Behind) → Each BehindStands bs → Makes (Each BeforeSelectors) (qs.selectors bs)
selectors_made [] h = record { at = λ s m. tt }
selectors_made (b ∷ bs) h = record { at = λ s m. (h.0.selector.at s m, (selectors_made bs h.1).at s _) }

place_stands : (t : Target) → Each BehindStands (map q.behind_of t.selectors) → Makes PlaceStands (qs.place t)
place_stands t h = record { at = λ s m. selectors_stand (qs.selectors (map q.behind_of t.selectors) s m).0 ((selectors_made (map q.behind_of t.selectors) h).at s m) }

-- ---- lists of statements

pub statements_stand : (xs : List qs.Lined) → Each LineStands xs → Makes (Each LinedStands) (qs.statements xs)
statements_stand [] h = record { at = λ s m. tt }
statements_stand (x ∷ xs) h = record { at = λ s m. (h.0.made.at s m, (statements_stand xs h.1).at s _) }

optional_block_stands : (o : Option (List qs.Lined)) → Maybe (Each LineStands) o → Makes (Each LinedStands) (qs.optional_block o)
optional_block_stands None h = record { at = λ s m. tt }
optional_block_stands (Some xs) h = record { at = λ s m. (statements_stand xs h).at s m }

-- ---- kinds of statements

pub assignment_stands : (t : Target) (x : q.Part) → Each BehindStands (map q.behind_of t.selectors) → PartStands x → KindStands (λ line. qs.assignment t x)
assignment_stands t x g h = record { made = λ line. record { at = λ s m. ((place_stands t g).at s m, h.term.at s _) } }

pub update_stands : (t : Target) (f : BinaryOp) (x : q.Part) → Each BehindStands (map q.behind_of t.selectors) → PartStands x → KindStands (λ line. qs.update t f x)
update_stands t f x g h = record { made = λ line. record { at = λ s m. ((place_stands t g).at s m, h.term.at s _) } }

pub parts_stand : (slots : List Slot) (x : q.Part) → PartStands x → KindStands (λ line. qs.parts_assignment slots x)
parts_stand slots x h = record { made = λ line. record { at = λ s m. h.term.at s m } }

pub taking_stands : (x : Word) (end : FromEnd) (t : Target) → Each BehindStands (map q.behind_of t.selectors) → KindStands (λ line. qs.taking_from x end t)
taking_stands x end t g = record { made = λ line. record { at = λ s m. (place_stands t g).at s m } }

called_stands : (o : Option (ℕ × List Param)) (xs : List q.Part) → Each PartStands xs → Makes StmtStands (qs.called o xs)
called_stands None xs h = record { at = λ s m. tt }
called_stands (Some r) xs h = record { at = λ s m. (call_stands r.0 r.1 xs h).at s m }

pub performance_stands : (f : Word) (xs : List q.Part) → Each PartStands xs → KindStands (λ line. qs.performance f xs)
performance_stands f xs h = record { made = λ line. record { at = λ s m. (called_stands (procedure_of s f) xs h).at s m } }

guarded_stands : (line : ℕ) (g : qs.Guarded) → GuardedStands g → Makes BeforeBlock (qs.guarded line g)
guarded_stands line g h = record { at = λ s m rest r. ((h.test.term.at s m, block_stands _ ((statements_stand g.body h.body).at s _), r), tt) }

branches_stand : (line : ℕ) (gs : List qs.Guarded) → Each GuardedStands gs → Makes (Each BeforeBlock) (qs.branches line gs)
branches_stand line [] h = record { at = λ s m. tt }
branches_stand line (g ∷ gs) h = record { at = λ s m. ((guarded_stands line g h.0).at s m, (branches_stand line gs h.1).at s _) }

pub if_stands : (first : qs.Guarded) (others : List qs.Guarded) (last : Option (List qs.Lined)) → GuardedStands first → Each GuardedStands others → Maybe (Each LineStands) last → KindStands (λ line. qs.choice line first others last)
if_stands first others last f g h = record {
  made = λ line. record {
    at = λ s m. (
      f.test.term.at s m,
      block_stands _ ((statements_stand first.body f.body).at s _),
      otherwise_stands _ _ ((branches_stand line others g).at s _) (block_stands _ ((optional_block_stands last h).at s _)),
    );
  };
}

pub for_stands : (ts : List q.Turn) (c : Option q.Part) (body : List qs.Lined) → Each IterStands ts → Maybe PartStands c → Each LineStands body → KindStands (λ line. qs.for_loop ts c body)
for_stands ts None body f g h = record {
  made = λ line. record { at = λ s m. (iterators_stand _ ((turns_stand ts f).at s m), tt, block_stands _ ((statements_stand body h).at s _)) };
}
for_stands ts (Some c) body f g h = record {
  made = λ line. record { at = λ s m. (iterators_stand _ ((turns_stand ts f).at s m), g.term.at s _, block_stands _ ((statements_stand body h).at s _)) };
}

pub while_stands : (c : q.Part) (body : List qs.Lined) → PartStands c → Each LineStands body → KindStands (λ line. qs.while_loop c body)
while_stands c body g h = record { made = λ line. record { at = λ s m. (g.term.at s m, block_stands _ ((statements_stand body h).at s _)) } }

pub simple_stands : (k : Stmt) → StmtStands k → KindStands (λ line s m. (k, m))
simple_stands k h = record { made = λ line. record { at = λ s m. h } }

pub return_stands : (x : Option q.Part) → Maybe PartStands x → KindStands (λ line. qs.return_of x)
return_stands None h = record { made = λ line. record { at = λ s m. tt } }
return_stands (Some x) h = record { made = λ line. record { at = λ s m. h.term.at s m } }

pub print_stands : (xs : List q.Part) → Each PartStands xs → KindStands (λ line. qs.print_of xs)
print_stands xs h = record { made = λ line. record { at = λ s m. exprs_stand _ ((terms_stand xs h).at s m) } }

pub read_stands : (xs : List Word) → KindStands (λ line. qs.read_of xs)
read_stands xs = record { made = λ line. record { at = λ s m. tt } }

pub lined_stands : (line : ℕ) (k : qs.Kind) → KindStands k → LineStands (qs.stmt_step (record { line = line; kind = k }))
lined_stands line k h = record { made = record { at = λ s m. (h.made line).at s m } }
