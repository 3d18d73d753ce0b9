-- Worked rows of dumps.
use Rattle.std.specs.Prelude.{List, [], ◌∷◌, codes}
use Rattle.setl_model_runs.specs.Variable.{Global, Bound}
use Rattle.setl_operators_table.specs.declared.Operator.TheVariants.{With, Less, Divide, NotEqual, NotIn}
use Rattle.setl_modes.specs.Modes.{General, Integers, Strings, Elements, Sets, Tuples, SingleMaps, MultiMaps}
use Rattle.setl_modes.specs.declared.mode.Form.TheVariants.{Plain, Local, Remote, Sparse}
use Rattle.setl_program.specs.declared.kinds.Collection.TheVariants.{OfTuple}
use Rattle.setl_program.specs.declared.kinds.Taking.TheVariants.{TakeFirst}
use Rattle.setl_program.specs.Program.{Undefined, Name, Former, Call, Ok, no_condition, no_argument, no_selector, TakeFrom, Perform, If, For, While, Fail, Succeed, no_stmt}
use Rattle.setl_program.specs.Source.{own, its, f, g, s, t, x, y, z, number, quoted, two, set_of, tuple_of, enumeration, row_of, at_brace, over, assign, put, combine, print, on_line, at, alone, lines_from, just, with_modes, procedure}
use Rattle.setl_model.specs.Table.{DumpRow, dumps}

-- the members of each base and the declared variables in their forms
abbrev pub dump_rows : List DumpRow
dump_rows =
    -- repr base b: int; s: local set(elmt b); end repr;
    -- s := {1};
    -- if ok then s with:= 2; print(s); fail; else print(s); end if;
    dumps 9 (codes "b" ∷ []) ((with_modes (lines_from 3 (assign s (enumeration (1 ∷ [])) ∷ If Ok (on_line 4
    (combine With s (number 2) ∷ print (Name s ∷ []) ∷ Fail ∷ [])) (alone 4 (print (Name s ∷ [])))
    ∷ [])) [] ((s, Sets Local (Elements 0 Integers)) ∷ [])))
    (codes "base b 1: 1\ns local 1\n")
    -- repr base n: int; s: remote set(elmt n); t: sparse set(elmt n); end repr;
    -- s := {30,10}; t := {20,10}; s with:= 20; print(s, t); print([x : x in s]);
    ∷ dumps 9 (codes "n" ∷ []) ((with_modes (on_line 3 (assign s (enumeration (30 ∷ 10 ∷ [])) ∷ assign t (enumeration
    (20 ∷ 10 ∷ [])) ∷ combine With s (number 20) ∷ print (Name s ∷ Name t ∷ []) ∷ print (Former OfTuple (Name
    (Bound 1 (codes "x"))) (over (Bound 1 (codes "x")) (Name s)) no_condition ∷ [])
    ∷ [])) [] ((s, Sets Remote (Elements 0 Integers)) ∷ (
      t,
      Sets Sparse
          (Elements 0 Integers),
    ) ∷ []))) (codes "base n 3: 10 30 20\ns remote 111\nt sparse 1 3\n")
    -- repr base n: int; g: local mmap{elmt n} remote set(elmt n);
    -- seen: local set(elmt n); end repr;
    -- g := {[1,2],[2,3],[4,1]};
    -- seen := {}; todo := [1];
    -- (while todo /= [])
    -- x fromb todo;
    -- if x notin seen then
    -- seen with:= x;
    -- (for y in g{x}) todo with:= y; end for;
    -- end if;
    -- end while;
    -- print(seen);
    ∷ dumps 99 (codes "n" ∷ []) ((with_modes (at 4 (assign g (set_of (row_of (1 ∷ 2 ∷ []) ∷ row_of (2 ∷ 3 ∷ [])
    ∷ row_of (4 ∷ 1 ∷ []) ∷ []))) (at 5 (assign (own (codes "seen")) (set_of [])) (at 5 (assign (own
    (codes "todo")) (row_of (1 ∷ []))) (at 6 (While (two NotEqual (Name (own (codes "todo"))) (tuple_of []))
    (lines_from 7 (TakeFrom TakeFirst x (record { variable = (own (codes "todo")); selectors = no_selector }) ∷ If
    (two NotIn (Name x) (Name (own (codes "seen")))) (lines_from 9 (combine With (own (codes "seen")) (Name x)
    ∷ For (over y (at_brace (Name g) (Name x))) no_condition (alone 10 (combine With (own (codes "todo"))
    (Name y))) ∷ [])) no_stmt ∷ []))) (at 13 (print (Name (own (codes "seen"))
    ∷ [])) no_stmt))))) [] ((
      g,
      MultiMaps Local (Elements 0 Integers) (Sets Remote
          (Elements 0 Integers)),
    ) ∷ (own (codes "seen"), Sets Local (Elements 0 Integers)) ∷ [])))
    (codes "base n 4: 1 2 3 4\ng local 1(remote 0100) 2(remote 0010) 4(remote 1000)\nseen local 1110\n")
    -- repr x, y: int; z: set(int); end repr;
    -- x := 5; z := {2, 1};
    ∷ dumps 9 [] ((with_modes (on_line 3 (assign x (number 5) ∷ assign z (enumeration (2 ∷ 1 ∷ []))
    ∷ [])) [] ((x, Integers) ∷ (y, Integers) ∷ (z, Sets Plain Integers) ∷ [])))
    (codes "x plain 5\ny om\nz plain {1 2}\n")
    -- repr base a, b: string; x, y: elmt b; t: tuple(elmt b); s: set(elmt a); f: smap(elmt b) int; end repr;
    -- s := {}; f := {}; t := [];
    ∷ dumps 9 (codes "a" ∷ codes "b" ∷ []) ((with_modes (on_line 3 (assign s (set_of []) ∷ assign f (set_of [])
    ∷ assign t (tuple_of []) ∷ [])) [] ((x, Elements 1 Strings) ∷ (y, Elements 1 Strings) ∷
    (t, Tuples (Elements 1 Strings)) ∷ (s, Sets Sparse (Elements 0 Strings)) ∷ (
      f,
      SingleMaps Sparse
          (Elements 1 Strings) Integers,
    ) ∷ [])))
    (codes "base a 0:\nbase b 0:\nx om\ny om\nt tuple -\ns sparse -\nf sparse -\n")
    -- a string stands between apostrophes:
    -- repr base b: string; x: elmt b; t: tuple(elmt b); r: remote set(elmt b); end repr;
    -- x := 'p'; t := ['q', om, 'p']; r := {};
    ∷ dumps 9 (codes "b" ∷ []) ((with_modes (on_line 3 (assign x (quoted (codes "p")) ∷ assign t (tuple_of (quoted
    (codes "q") ∷ Undefined ∷ quoted (codes "p") ∷ [])) ∷ assign (own (codes "r")) (set_of [])
    ∷ [])) [] ((x, Elements 0 Strings) ∷ (t, Tuples (Elements 0 Strings)) ∷ (
      own
          (codes "r"),
      Sets Remote (Elements 0 Strings),
    ) ∷ [])))
    (codes "base b 2: 'p' 'q'\nx elmt 1\nt tuple 2 * 1\nr remote 00\n")
    -- repr base b: int; r, s: remote set(elmt b); end repr;
    -- r := {};
    ∷ dumps 9 (codes "b" ∷ []) ((with_modes (alone 3 (assign (own (codes "r")) (set_of []))) [] ((own (codes "r"), Sets Remote (Elements 0 Integers)) ∷ (s, Sets Remote (Elements 0 Integers)) ∷ [])))
    (codes "base b 0:\nr remote -\ns om\n")
    -- repr base b; base c: int; f: remote smap(elmt b) elmt c; g: sparse mmap{elmt c} set(general); end repr;
    -- f := {['p', 4], ['q', 5]}; g := {[4, {}], [4, 1], [6, 'a']}; f('p') := om;
    ∷ dumps 9 (codes "b" ∷ codes "c" ∷ []) ((with_modes (on_line 3 (assign f (set_of (tuple_of (quoted (codes "p")
    ∷ number 4 ∷ []) ∷ tuple_of (quoted (codes "q") ∷ number 5 ∷ []) ∷ [])) ∷ assign g (set_of (tuple_of (number 4
    ∷ set_of [] ∷ []) ∷ row_of (4 ∷ 1 ∷ []) ∷ tuple_of (number 6 ∷ quoted (codes "a") ∷ []) ∷ [])) ∷ put f (quoted
    (codes "p")) Undefined ∷ [])) [] ((
      f,
      SingleMaps Remote (Elements 0 General)
          (Elements 1 Integers),
    ) ∷ (g, MultiMaps Sparse (Elements 1 Integers) (Sets Plain General)) ∷ [])))
    (codes "base b 2: 'p' 'q'\nbase c 3: 4 5 6\nf remote 2(elmt 2)\ng sparse 1(plain {1 {}}) 3(plain {'a'})\n")
    -- members stay in a base:
    -- repr base b: int; s: sparse set(elmt b); end repr;
    -- s := {1}; s less:= 1; s with:= 2; s with:= 1;
    ∷ dumps 9 (codes "b" ∷ []) ((with_modes (on_line 3 (assign s (enumeration (1 ∷ [])) ∷ combine Less s (number 1)
    ∷ combine With s (number 2) ∷ combine With s (number 1) ∷ [])) [] ((
      s,
      Sets Sparse
          (Elements 0 Integers),
    ) ∷ []))) (codes "base b 2: 1 2\ns sparse 1 2\n")
    -- each `fail` cuts a base back to its own `ok`:
    -- repr base b: int; s: sparse set(elmt b); end repr;
    -- s := {3}; if ok then s with:= 1; if ok then s with:= 2; fail; else s with:= 4; fail; end if; end if;
    -- s with:= 5;
    ∷ dumps 9 (codes "b" ∷ []) ((with_modes (at 3 (assign s (enumeration (3 ∷ []))) (at 3 (If Ok (on_line 3
    (combine With s (number 1) ∷ If Ok (on_line 3 (combine With s (number 2) ∷ Fail ∷ [])) (on_line 3
    (combine With s (number 4) ∷ Fail ∷ [])) ∷ [])) no_stmt) (at 4 (combine With s
    (number 5)) no_stmt))) [] ((s, Sets Sparse (Elements 0 Integers)) ∷ [])))
    (codes "base b 2: 3 5\ns sparse 1 2\n")
    -- a `succeed` leaves the base, and the next `fail` cuts it to the `ok` before:
    -- repr base b: int; s: sparse set(elmt b); end repr;
    -- s := {3}; if ok then s with:= 1; if ok then s with:= 2; succeed; end if; s with:= 4; fail; end if;
    -- s with:= 5;
    ∷ dumps 9 (codes "b" ∷ []) ((with_modes (at 3 (assign s (enumeration (3 ∷ []))) (at 3 (If Ok (on_line 3
    (combine With s (number 1) ∷ If Ok (on_line 3 (combine With s (number 2) ∷ Succeed ∷ [])) no_stmt
    ∷ combine With s (number 4) ∷ Fail ∷ [])) no_stmt) (at 4 (combine With s
    (number 5)) no_stmt))) [] ((s, Sets Sparse (Elements 0 Integers)) ∷ [])))
    (codes "base b 2: 3 5\ns sparse 1 2\n")
    -- repr base b: int; s: sparse set(elmt b); end repr;
    -- s := {3}; if ok then s with:= 1; succeed; end if; s with:= 2;
    ∷ dumps 9 (codes "b" ∷ []) ((with_modes (on_line 3 (assign s (enumeration (3 ∷ [])) ∷ If Ok (on_line 3
    (combine With s (number 1) ∷ Succeed ∷ [])) no_stmt ∷ combine With s (number 2) ∷ [])) [] ((
      s,
      Sets Sparse
          (Elements 0 Integers),
    ) ∷ []))) (codes "base b 3: 3 1 2\ns sparse 1 2 3\n")
    -- at a stop inside a procedure; its own names are not the declared ones:
    -- repr base b: int; x: int; s: sparse set(elmt b); end repr;
    -- x := 1; s := {2}; p();
    -- proc p(); x := 7; s := {9};
    -- print(1 div 0); end proc;
    ∷ dumps 9 (codes "b" ∷ []) ((with_modes (on_line 3 (assign x (number 1) ∷ assign s (enumeration (2 ∷ []))
    ∷ Perform (Call 0 no_argument) ∷ [])) ((procedure (codes "p") [] (at 4
    (assign (its (codes "x")) (number 7)) (at 4 (assign (its (codes "s")) (enumeration (9 ∷ []))) (at 5 (print
    (two Divide (number 1) (number 0) ∷ [])) no_stmt)))) ∷ []) ((x, Integers) ∷ (
      s,
      Sets Sparse
          (Elements 0 Integers),
    ) ∷ []))) (codes "base b 1: 2\nx plain 1\ns sparse 1\n")
    -- a store that does not fit enters nothing:
    -- var x; repr base b: int; x: elmt b; end repr;
    -- x := 1; p();
    -- proc p(); x := 7; x := 'a'; end proc;
    ∷ dumps 9 (codes "b" ∷ []) ((with_modes (on_line 3 (assign (Global (codes "x")) (number 1) ∷ Perform
    (Call 0 no_argument) ∷ [])) ((procedure (codes "p") [] (on_line 4 (assign
    (Global (codes "x")) (number 7) ∷ assign (Global (codes "x")) (quoted (codes "a")) ∷ []))) ∷ []) ((Global (codes "x"), Elements 0 Integers) ∷ []))) (codes "base b 2: 1 7\nx elmt 2\n")
    --
    ∷ dumps 9 [] (just no_stmt) []
    ∷ []
