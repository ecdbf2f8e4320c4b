use Rattle.std.proofs.Common.{◌≡◌, ◌++◌, drop, map}
use Rattle.bg_text.specs.Views.{decl_of}
use Rattle.bg_ast.specs.Views.{declared_of, proc_of, impl_of}
use Rattle.bg_keep.specs.Told.{told_decls}
use Rattle.bg_keep.proofs.program.kept_decls.Given as goal

abbrev pub invariant-loop-i : goal.invariant-loop-i
invariant-loop-i l =
    map decl_of l.made.items ++ told_decls l.set (map declared_of l.program.globals.items) (drop l.at.procedures (map proc_of l.program.procedures.items)) (drop l.at.implementations (map impl_of l.program.implementations.items)) (map decl_of (drop l.i l.decls))
    ≡ told_decls l.set (map declared_of l.program.globals.items) (map proc_of l.program.procedures.items) (map impl_of l.program.implementations.items) (map decl_of l.fn.decls)
