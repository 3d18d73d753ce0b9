-- Worked rows of declarations.
use Rattle.std.specs.Prelude.{List, [], ◌∷◌, ◌++◌, codes, Some}
use Rattle.setl_model_runs.specs.Variable.{Global, Bound}
use Rattle.setl_operators_table.specs.declared.Operator.TheVariants.{With, Less}
use Rattle.setl_modes.specs.Modes.{General, Integers, Strings, Booleans, Atoms, Elements, Sets, Tuples, SingleMaps, MultiMaps}
use Rattle.setl_modes.specs.declared.mode.Form.TheVariants.{Plain, Local, Remote, Sparse}
use Rattle.setl_program.specs.declared.kinds.Collection.TheVariants.{OfSet}
use Rattle.setl_program.specs.declared.kinds.Quantifier.TheVariants.{Exists}
use Rattle.setl_program.specs.declared.kinds.Taking.TheVariants.{TakeLeast}
use Rattle.setl_program.specs.Program.{Undefined, Name, Former, Quantified, Call, Newat, no_condition, no_argument, rd_argument, rw_argument, no_selector, AssignParts, TakeFrom, Perform, For, Read, no_stmt}
use Rattle.setl_model_runs.specs.Events.{Unfit, Done, Stopped}
use Rattle.setl_program.specs.Source.{its, f, s, t, x, y, yes, no, number, quoted, minus, set_of, tuple_of, enumeration, row_of, over, assign, put, put_brace, combine, print, on_line, at, alone, lines_from, with_modes, procedure, rd_parameter, rw_parameter}
use Rattle.setl_model.specs.Table.{Row, does, ends, all_end, reads, unbased}

-- what fits each mode; `om` fits all
abbrev pub mode_rows : List Row
mode_rows =
    -- repr x: int; end repr;
    -- x := 1; x := -5; x := om; print(1);
    does 0 ((with_modes (on_line 3 (assign x (number 1) ∷ assign x (minus 5) ∷ assign x Undefined ∷ print (number 1
    ∷ []) ∷ [])) [] ((x, Integers) ∷ []))) (codes "1\n")
    -- unfit x 3:
    -- repr x: int; end repr;
    -- x := 'a';
    -- repr x: int; end repr;
    -- x := true;
    -- repr x: int; end repr;
    -- x := {1};
    ∷ all_end (Stopped (Unfit x) 3) (
    (with_modes (alone 3 (assign x (quoted (codes "a")))) [] ((x, Integers) ∷ []))
    ∷ (with_modes (alone 3 (assign x yes)) [] ((x, Integers) ∷ []))
    ∷ (with_modes (alone 3 (assign x (enumeration (1 ∷ [])))) [] ((x, Integers) ∷ []))
    ∷ [])
    -- repr x: string; end repr;
    -- x := 'a'; x := ''; x := om; print(1);
    ++ does 0 ((with_modes (on_line 3 (assign x (quoted (codes "a")) ∷ assign x (quoted (codes ""))
    ∷ assign x Undefined ∷ print (number 1 ∷ []) ∷ [])) [] ((x, Strings) ∷ [])))
    (codes "1\n")
    -- unfit x 3:
    -- repr x: string; end repr;
    -- x := 1;
    -- repr x: string; end repr;
    -- x := [];
    ∷ all_end (Stopped (Unfit x) 3) (
    (with_modes (alone 3 (assign x (number 1))) [] ((x, Strings) ∷ []))
    ∷ (with_modes (alone 3 (assign x (tuple_of []))) [] ((x, Strings) ∷ []))
    ∷ [])
    -- repr x: boolean; end repr;
    -- x := true; x := om; print(1);
    ++ does 0 ((with_modes (on_line 3 (assign x yes ∷ assign x Undefined ∷ print (number 1 ∷ [])
    ∷ [])) [] ((x, Booleans) ∷ []))) (codes "1\n")
    -- unfit x 3:
    -- repr x: boolean; end repr;
    -- x := 1;
    -- repr x: boolean; end repr;
    -- x := 'true';
    ∷ all_end (Stopped (Unfit x) 3) (
    (with_modes (alone 3 (assign x (number 1))) [] ((x, Booleans) ∷ []))
    ∷ (with_modes (alone 3 (assign x (quoted (codes "true")))) [] ((x, Booleans) ∷ []))
    ∷ [])
    -- repr x: atom; end repr;
    -- x := om; print(1);
    ++ does 0 ((with_modes (on_line 3 (assign x Undefined ∷ print (number 1 ∷ []) ∷ [])) [] ((x, Atoms) ∷ []))) (codes "1\n")
    -- unfit x 3:
    -- repr x: atom; end repr;
    -- x := 1;
    -- repr x: atom; end repr;
    -- x := {};
    ∷ all_end (Stopped (Unfit x) 3) (
    (with_modes (alone 3 (assign x (number 1))) [] ((x, Atoms) ∷ []))
    ∷ (with_modes (alone 3 (assign x (set_of []))) [] ((x, Atoms) ∷ []))
    ∷ [])
    -- repr x: general; y: atom; end repr;
    -- x := 1; x := {[], 2}; x := 'a'; x := om; y := newat; print(x, y);
    ++ does 1 ((with_modes (on_line 3 (assign x (number 1) ∷ assign x (set_of (tuple_of [] ∷ number 2 ∷ []))
    ∷ assign x (quoted (codes "a")) ∷ assign x Undefined ∷ assign y Newat ∷ print (Name x ∷ Name y ∷ [])
    ∷ [])) [] ((x, General) ∷ (y, Atoms) ∷ []))) (codes "* #1\n")
    -- repr base b: int; x: elmt b; end repr;
    -- x := 1; x := om; print(1);
    ∷ does 0 ((with_modes (on_line 3 (assign x (number 1) ∷ assign x Undefined ∷ print (number 1 ∷ [])
    ∷ [])) [] ((x, Elements 0 Integers) ∷ []))) (codes "1\n")
    -- unfit x 3:
    -- repr base b: int; x: elmt b; end repr;
    -- x := 'a';
    ∷ all_end (Stopped (Unfit x) 3) (
    (with_modes (alone 3 (assign x (quoted (codes "a")))) [] ((x, Elements 0 Integers)
    ∷ []))
    ∷ [])
    -- repr x: set(int); end repr;
    -- x := {}; x := {1, 2}; x := om; print(1);
    ++ does 0 ((with_modes (on_line 3 (assign x (set_of []) ∷ assign x (enumeration (1 ∷ 2 ∷ [])) ∷ assign x Undefined
    ∷ print (number 1 ∷ []) ∷ [])) [] ((x, Sets Plain Integers) ∷ []))) (codes "1\n")
    -- unfit x 3:
    -- repr x: set(int); end repr;
    -- x := {1, 'a'};
    -- repr x: set(int); end repr;
    -- x := [1];
    -- repr x: set(int); end repr;
    -- x := 1;
    ∷ all_end (Stopped (Unfit x) 3) (
    (with_modes (alone 3 (assign x (set_of (number 1 ∷ quoted (codes "a") ∷ [])))) [] ((x, Sets Plain Integers) ∷ []))
    ∷ (with_modes (alone 3 (assign x (row_of (1 ∷ [])))) [] ((x, Sets Plain Integers)
    ∷ []))
    ∷ (with_modes (alone 3 (assign x (number 1))) [] ((x, Sets Plain Integers) ∷ []))
    ∷ [])
    -- repr base b: int; x: remote set(elmt b); end repr;
    -- x := {}; x := {1, 2}; x := om; print(1);
    ++ does 0 ((with_modes (on_line 3 (assign x (set_of []) ∷ assign x (enumeration (1 ∷ 2 ∷ [])) ∷ assign x Undefined
    ∷ print (number 1 ∷ []) ∷ [])) [] ((x, Sets Remote (Elements 0 Integers)) ∷ [])))
    (codes "1\n")
    -- unfit x 3:
    -- repr base b: int; x: remote set(elmt b); end repr;
    -- x := {1, 'a'};
    -- repr base b: int; x: remote set(elmt b); end repr;
    -- x := [1];
    ∷ all_end (Stopped (Unfit x) 3) (
    (with_modes (alone 3 (assign x (set_of (number 1 ∷ quoted (codes "a") ∷ [])))) [] ((x, Sets Remote (Elements 0 Integers)) ∷ []))
    ∷ (with_modes (alone 3 (assign x (row_of (1 ∷ [])))) [] ((
      x,
      Sets Remote
          (Elements 0 Integers),
    ) ∷ []))
    ∷ [])
    -- repr x: tuple(int); end repr;
    -- x := []; x := [1, om, 2]; x := om; print(1);
    ++ does 0 ((with_modes (on_line 3 (assign x (tuple_of []) ∷ assign x (tuple_of (number 1 ∷ Undefined ∷ number 2
    ∷ [])) ∷ assign x Undefined ∷ print (number 1 ∷ []) ∷ [])) [] ((x, Tuples Integers)
    ∷ []))) (codes "1\n")
    -- unfit x 3:
    -- repr x: tuple(int); end repr;
    -- x := [1, 'a'];
    -- repr x: tuple(int); end repr;
    -- x := {1};
    ∷ all_end (Stopped (Unfit x) 3) (
    (with_modes (alone 3 (assign x (tuple_of (number 1 ∷ quoted (codes "a") ∷ [])))) [] ((x, Tuples Integers) ∷ []))
    ∷ (with_modes (alone 3 (assign x (enumeration (1 ∷ [])))) [] ((x, Tuples Integers)
    ∷ []))
    ∷ [])
    -- repr x: smap(int) string; end repr;
    -- x := {}; x := {[1, 'a'], [2, 'a']}; x := om; print(1);
    ++ does 0 ((with_modes (on_line 3 (assign x (set_of []) ∷ assign x (set_of (tuple_of (number 1 ∷ quoted
    (codes "a") ∷ []) ∷ tuple_of (number 2 ∷ quoted (codes "a") ∷ []) ∷ [])) ∷ assign x Undefined ∷ print
    (number 1 ∷ []) ∷ [])) [] ((x, SingleMaps Plain Integers Strings) ∷ []))) (codes "1\n")
    -- unfit x 3:
    -- repr x: smap(int) string; end repr;
    -- x := {[1, 'a'], [1, 'b']};
    -- repr x: smap(int) string; end repr;
    -- x := {['a', 'a']};
    -- repr x: smap(int) string; end repr;
    -- x := {[1, 2]};
    -- repr x: smap(int) string; end repr;
    -- x := {1};
    -- repr x: smap(int) string; end repr;
    -- x := [1];
    -- repr x: smap(int) string; end repr;
    -- x := {[om, 'a']};
    ∷ all_end (Stopped (Unfit x) 3) (
    (with_modes (alone 3 (assign x (set_of (tuple_of (number 1 ∷ quoted (codes "a") ∷ []) ∷ tuple_of (number 1
    ∷ quoted (codes "b") ∷ []) ∷ [])))) [] ((x, SingleMaps Plain Integers Strings) ∷ []))
    ∷ (with_modes (alone 3 (assign x (set_of (tuple_of (quoted (codes "a") ∷ quoted (codes "a") ∷ [])
    ∷ [])))) [] ((x, SingleMaps Plain Integers Strings) ∷ []))
    ∷ (with_modes (alone 3 (assign x (set_of (row_of (1 ∷ 2 ∷ []) ∷ [])))) [] ((x, SingleMaps Plain Integers Strings) ∷ []))
    ∷ (with_modes (alone 3 (assign x (enumeration (1 ∷ [])))) [] ((x, SingleMaps Plain Integers Strings) ∷ []))
    ∷ (with_modes (alone 3 (assign x (row_of (1 ∷ [])))) [] ((x, SingleMaps Plain Integers Strings) ∷ []))
    ∷ (with_modes (alone 3 (assign x (set_of (tuple_of (Undefined ∷ quoted (codes "a") ∷ [])
    ∷ [])))) [] ((x, SingleMaps Plain Integers Strings) ∷ []))
    ∷ [])
    -- repr x: mmap{int} set(string); end repr;
    -- x := {}; x := {[1, 'a'], [1, 'b'], [2, 'a']}; x := om; print(1);
    ++ does 0 ((with_modes (on_line 3 (assign x (set_of []) ∷ assign x (set_of (tuple_of (number 1 ∷ quoted
    (codes "a") ∷ []) ∷ tuple_of (number 1 ∷ quoted (codes "b") ∷ []) ∷ tuple_of (number 2 ∷ quoted (codes "a")
    ∷ []) ∷ [])) ∷ assign x Undefined ∷ print (number 1 ∷ []) ∷ [])) [] ((x, MultiMaps Plain Integers (Sets Plain Strings)) ∷ []))) (codes "1\n")
    -- unfit x 3:
    -- repr x: mmap{int} set(string); end repr;
    -- x := {[1, 2]};
    -- repr x: mmap{int} set(string); end repr;
    -- x := {['a', 'a']};
    -- repr x: mmap{int} set(string); end repr;
    -- x := {1};
    -- repr x: mmap{int} set(string); end repr;
    -- x := {[1, 'a'], [1, 2]};
    ∷ all_end (Stopped (Unfit x) 3) (
    (with_modes (alone 3 (assign x (set_of (row_of (1 ∷ 2 ∷ []) ∷ [])))) [] ((x, MultiMaps Plain Integers (Sets Plain Strings)) ∷ []))
    ∷ (with_modes (alone 3 (assign x (set_of (tuple_of (quoted (codes "a") ∷ quoted (codes "a") ∷ [])
    ∷ [])))) [] ((x, MultiMaps Plain Integers (Sets Plain Strings)) ∷ []))
    ∷ (with_modes (alone 3 (assign x (enumeration (1 ∷ [])))) [] ((x, MultiMaps Plain Integers (Sets Plain Strings)) ∷ []))
    ∷ (with_modes (alone 3 (assign x (set_of (tuple_of (number 1 ∷ quoted (codes "a") ∷ []) ∷ row_of (1 ∷ 2
    ∷ []) ∷ [])))) [] ((x, MultiMaps Plain Integers (Sets Plain Strings)) ∷ []))
    ∷ [])
    -- repr base b: int; x: local mmap{elmt b} remote set(elmt b); end repr;
    -- x := {[1, 2], [1, 3]}; x := om; print(1);
    ++ does 0 ((with_modes (on_line 3 (assign x (set_of (row_of (1 ∷ 2 ∷ []) ∷ row_of (1 ∷ 3 ∷ []) ∷ []))
    ∷ assign x Undefined ∷ print (number 1 ∷ []) ∷ [])) [] ((
      x,
      MultiMaps Local
          (Elements 0 Integers) (Sets Remote (Elements 0 Integers)),
    ) ∷ []))) (codes "1\n")
    -- unfit x 3:
    -- repr base b: int; x: local mmap{elmt b} remote set(elmt b); end repr;
    -- x := {[1, 'a']};
    -- repr base b: int; x: local mmap{elmt b} remote set(elmt b); end repr;
    -- x := {['a', 1]};
    ∷ all_end (Stopped (Unfit x) 3) (
    (with_modes (alone 3 (assign x (set_of (tuple_of (number 1 ∷ quoted (codes "a") ∷ [])
    ∷ [])))) [] ((
      x,
      MultiMaps Local (Elements 0 Integers) (Sets Remote
          (Elements 0 Integers)),
    ) ∷ []))
    ∷ (with_modes (alone 3 (assign x (set_of (tuple_of (quoted (codes "a") ∷ number 1 ∷ [])
    ∷ [])))) [] ((
      x,
      MultiMaps Local (Elements 0 Integers) (Sets Remote
          (Elements 0 Integers)),
    ) ∷ []))
    ∷ [])

-- a store needs that the whole new value fits
abbrev pub whole_value_rows : List Row
whole_value_rows =
    -- repr base n: int; s, t: remote set(elmt n); end repr;
    -- s := {1}; t := s; s with:= 2; print(s, t);
    does 0 ((with_modes (on_line 3 (assign s (enumeration (1 ∷ [])) ∷ assign t (Name s) ∷ combine With s (number 2)
    ∷ print (Name s ∷ Name t ∷ []) ∷ [])) [] ((s, Sets Remote (Elements 0 Integers)) ∷
    (t, Sets Remote (Elements 0 Integers)) ∷ []))) (codes "{1 2} {1}\n")
    -- repr base n: int; s, t: local set(elmt n); end repr;
    -- s := {1}; t := s; s with:= 2; print(s, t); s less:= 1; print(s, t);
    ∷ does 0 ((with_modes (on_line 3 (assign s (enumeration (1 ∷ [])) ∷ assign t (Name s) ∷ combine With s (number 2)
    ∷ print (Name s ∷ Name t ∷ []) ∷ combine Less s (number 1) ∷ print (Name s ∷ Name t ∷ [])
    ∷ [])) [] ((s, Sets Local (Elements 0 Integers)) ∷ (t, Sets Local (Elements 0 Integers))
    ∷ []))) (codes "{1 2} {1}\n{2} {1}\n")
    -- repr base n: int; s: sparse set(elmt n); end repr;
    -- s := {1}; print(s);
    -- s with:= 'a'; print(s);
    ∷ ends (Stopped (Unfit s) 4) 0 ((with_modes (at 3 (assign s (enumeration (1 ∷ []))) (at 3 (print (Name s ∷ []))
    (at 4 (combine With s (quoted (codes "a"))) (at 4 (print (Name s ∷ [])) no_stmt)))) [] ((s, Sets Sparse (Elements 0 Integers)) ∷ []))) (codes "{1}\n")
    -- repr base n: int; s: sparse set(elmt n); end repr;
    -- s := {1}; print(s);
    -- s with:= 'a'; print(s);
    -- without declarations
    ∷ unbased 0 ((with_modes (at 3 (assign s (enumeration (1 ∷ []))) (at 3 (print (Name s ∷ [])) (at 4
    (combine With s (quoted (codes "a"))) (at 4 (print (Name s ∷ [])) no_stmt)))) [] ((s, Sets Sparse (Elements 0 Integers)) ∷ []))) (codes "{1}\n{1 'a'}\n") Done
    -- repr base n: int; f: sparse smap(elmt n) int; end repr;
    -- f := {[1, 10]}; f(1) := om; print(f); f(1) := 5; print(f);
    -- f{1} := {1, 2};
    ∷ ends (Stopped (Unfit f) 4) 0 ((with_modes (at 3 (assign f (set_of (row_of (1 ∷ 10 ∷ []) ∷ []))) (at 3 (put f
    (number 1) Undefined) (at 3 (print (Name f ∷ [])) (at 3 (put f (number 1) (number 5)) (at 3 (print (Name f
    ∷ [])) (at 4 (put_brace f (number 1) (enumeration (1 ∷ 2 ∷ []))) no_stmt)))))) [] ((f, SingleMaps Sparse (Elements 0 Integers) Integers) ∷ []))) (codes "{}\n{[1 5]}\n")
    -- repr t: tuple(int); end repr;
    -- t := [1]; t(1) := om; t(3) := om; print(t);
    -- t(1) := 'a';
    ∷ ends (Stopped (Unfit t) 4) 0 ((with_modes (at 3 (assign t (row_of (1 ∷ []))) (at 3 (put t (number 1) Undefined)
    (at 3 (put t (number 3) Undefined) (at 3 (print (Name t ∷ [])) (at 4 (put t (number 1) (quoted
    (codes "a"))) no_stmt))))) [] ((t, Tuples Integers) ∷ []))) (codes "[]\n")
    -- repr x: int; end repr;
    -- x := {1}; print(x);
    -- without declarations
    ∷ unbased 0 ((with_modes (on_line 3 (assign x (enumeration (1 ∷ [])) ∷ print (Name x ∷ [])
    ∷ [])) [] ((x, Integers) ∷ []))) (codes "{1}\n") Done
    ∷ []

-- every store of a declared variable is tested, at the line of its statement
abbrev pub every_store_rows : List Row
every_store_rows =
    -- repr x: int; end repr;
    -- [y, x] := [1, 'a'];
    ends (Stopped (Unfit x) 3) 0 ((with_modes (alone 3 (AssignParts (Some y ∷ Some x ∷ []) (tuple_of (number 1
    ∷ quoted (codes "a") ∷ [])))) [] ((x, Integers) ∷ []))) []
    -- repr x: int; end repr;
    -- s := {'a'};
    -- x from s;
    ∷ ends (Stopped (Unfit x) 4) 0 ((with_modes (lines_from 3 (assign s (set_of (quoted (codes "a") ∷ []))
    ∷ TakeFrom TakeLeast x (record { variable = s; selectors = no_selector }) ∷ [])) [] ((x, Integers) ∷ []))) []
    -- repr s: set(int); end repr;
    -- s := {1, 2};
    -- x from s; s from s;
    ∷ ends (Stopped (Unfit s) 4) 0 ((with_modes (at 3 (assign s (enumeration (1 ∷ 2 ∷ []))) (at 4
    (TakeFrom TakeLeast x (record { variable = s; selectors = no_selector })) (at 4 (TakeFrom TakeLeast s
    (record { variable = s; selectors = no_selector })) no_stmt))) [] ((s, Sets Plain Integers) ∷ []))) []
    -- repr x: int; end repr;
    -- (for x in [1, 'a'])
    -- print(x); end for;
    ∷ ends (Stopped (Unfit x) 3) 9 ((with_modes (alone 3 (For (over x (tuple_of (number 1 ∷ quoted (codes "a")
    ∷ []))) no_condition (alone 4 (print (Name x ∷ []))))) [] ((x, Integers) ∷ [])))
    (codes "1\n")
    -- repr x: int; end repr;
    -- y := exists x in [1, 'a'] | false;
    ∷ ends (Stopped (Unfit x) 3) 9 ((with_modes (alone 3 (assign y (Quantified Exists (over x (tuple_of (number 1
    ∷ quoted (codes "a") ∷ []))) no))) [] ((x, Integers) ∷ []))) []
    -- repr x: int; end repr;
    -- y := exists x in [1, 2] | false; print(x);
    ∷ does 9 ((with_modes (on_line 3 (assign y (Quantified Exists (over x (row_of (1 ∷ 2 ∷ []))) no) ∷ print (Name x
    ∷ []) ∷ [])) [] ((x, Integers) ∷ []))) (codes "*\n")
    -- repr x: int; end repr;
    -- read(x); print(x);
    -- read(x);
    ∷ reads (codes "1 'a'") 0 ((with_modes (at 3 (Read (x ∷ [])) (at 3 (print (Name x ∷ [])) (at 4 (Read (x
    ∷ [])) no_stmt))) [] ((x, Integers) ∷ []))) (codes "1\n") (Stopped (Unfit x) 4)
    -- at the return, the line is that of the call:
    -- repr x: int; end repr;
    -- x := 1;
    -- p(x);
    -- proc p(rw a);
    -- a := 'a'; end proc;
    ∷ ends (Stopped (Unfit x) 4) 9 ((with_modes (lines_from 3 (assign x (number 1) ∷ Perform (Call 0
    (rw_argument x no_argument))
    ∷ [])) ((procedure (codes "p") ((rw_parameter (codes "a"))
    ∷ []) (alone 6 (assign (its (codes "a")) (quoted (codes "a"))))) ∷ []) ((x, Integers) ∷ []))) []
    -- var x; repr x: int; end repr;
    -- p();
    -- proc p();
    -- x := 'a'; end proc;
    ∷ ends (Stopped (Unfit (Global (codes "x"))) 5) 9 ((with_modes (alone 3 (Perform
    (Call 0 no_argument))) ((procedure (codes "p") [] (alone 5 (assign (Global
    (codes "x")) (quoted (codes "a"))))) ∷ []) ((Global (codes "x"), Integers) ∷ []))) []
    -- a parameter with the name of a declared variable is not declared:
    -- repr x: int; end repr;
    -- p('a'); x := 1;
    -- proc p(x); print(x); y := x; end proc;
    ∷ does 9 ((with_modes (on_line 3 (Perform (Call 0 (rd_argument (quoted (codes "a")) no_argument)) ∷ assign x
    (number 1)
    ∷ [])) ((procedure (codes "p") ((rd_parameter (codes "x"))
    ∷ []) (on_line 4 (print (Name (its (codes "x")) ∷ []) ∷ assign (its (codes "y")) (Name (its
    (codes "x"))) ∷ []))) ∷ []) ((x, Integers) ∷ []))) (codes "a\n")
    -- repr base n: int; s: sparse set(elmt n); end repr;
    -- p();
    -- proc p(); s := 1; print(s); end proc;
    ∷ does 1 ((with_modes (alone 3 (Perform
    (Call 0 no_argument))) ((procedure (codes "p") [] (on_line 4 (assign (its
    (codes "s")) (number 1) ∷ print (Name (its (codes "s")) ∷ []) ∷ []))) ∷ []) ((
      s,
      Sets Sparse
          (Elements 0 Integers),
    ) ∷ []))) (codes "1\n")
    -- nor is a former's own name:
    -- repr x: int; end repr;
    -- print({x : x in {'a'}}); x := 1;
    ∷ does 9 ((with_modes (on_line 3 (print (Former OfSet (Name (Bound 1 (codes "x"))) (over (Bound 1 (codes "x"))
    (set_of (quoted (codes "a") ∷ []))) no_condition ∷ []) ∷ assign x (number 1) ∷ [])) [] ((x, Integers) ∷ []))) (codes "{'a'}\n")
    ∷ []
