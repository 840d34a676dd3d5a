-- What is known of the statics of a program, and of its literals.
use Rattle.std.specs.Prelude.{◌<◌, ◌^◌, ℕ, ℤ, List, length}
use Rattle.conversion_laws.specs.Constants.{AreKept, IsValue}
use Rattle.flow_graph.specs.declared.graph.Op.{Op}
use Rattle.ll_texts.specs.Texts.{AreBytes}
use Rattle.rpy_base.specs.Word.{Fits}
use Rattle.rpy_tree.specs.declared.program.Const.{Const}
use Rattle.rtyper_program.specs.Seen.{element_at}
use Rattle.typed_rows.specs.Programs.{Typed, last, layout, world}

-- The strings and tuples among the statics that were asked for to the last moment are known to stay.
abbrev pub StaticsStay : Typed → Type 0
StaticsStay t = AreKept t.p (layout t) t.seen (last t)

-- a word in the text of a function is one
abbrev pub WordFits : ℤ → Typed → ℕ → Op → Type 0
WordFits z t n o = StaticsStay t × Fits z

-- a string in the text of a function has bytes, as many as a word counts
abbrev pub StringFits : List ℕ → Typed → ℕ → Op → Type 0
StringFits bytes t n o = StaticsStay t × (length bytes < 2 ^ 63) × AreBytes bytes

abbrev pub Stay : Typed → ℕ → Op → Type 0
Stay t n o = StaticsStay t

-- the constant is a value of what stands at the result
abbrev pub ConstantFits : Const → Typed → ℕ → Op → Type 0
ConstantFits c t n o = StaticsStay t × IsValue (world t).around t.seen (element_at t.known.annotation n o.result) c
