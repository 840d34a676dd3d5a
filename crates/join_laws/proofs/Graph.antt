-- What the graph is that joins the items of a list.
use Rattle.std.proofs.Common.{◌≡◌, ℕ, ◌+◌, Bool, true, false, List, [], ◌∷◌, ◌++◌, None, pos, refl, ap, ◌∙◌}
use Rattle.csub_tree.specs.declared.tree.CBinary.TheVariants.{Add, Gt}
use Rattle.csub_tree.specs.declared.tree.COperand.TheVariants.{Var}
use Rattle.ll_code.specs.declared.program.LlType.{LlType}
use Rattle.ll_code.specs.declared.program.LlType.TheVariants as type
use Rattle.ll_code.specs.declared.program.LlOp.{LlOp}
use Rattle.ll_code.specs.declared.program.LlOp.TheVariants as op
use Rattle.ll_code.specs.declared.program.LlGraph.{LlGraph}
use Rattle.ll_build.specs.declared.needs.Helper.TheVariants.{StrOfChar}
use Rattle.ll_build.specs.Build.{word as word_operand}
use Rattle.rtyper_layout.specs.declared.layout.Layout.{Layout}
use Rattle.rtyper_layout.specs.Types.{word}
use Rattle.rtyper_data.specs.declared.found.Found.{Found}
use Rattle.rtyper_data.specs.declared.small.Listed.TheVariants.{Copy, Join, Part}
use Rattle.rtyper_data.specs.declared.small.Small.TheVariants as small
use Rattle.rtyper_data.specs.Converting.{helped, value_as}
use Rattle.rtyper_data.specs.Finding.{helper_number, small_number}
use Rattle.rtyper_data.specs.Tuples.{variable_of}
use Rattle.list_shape.specs.declared.shape.Shape.{Shape}
use Rattle.list_shape.specs.Shapes.{item_of}
use Rattle.list_helpers.specs.Listing.{list_graph}
use Rattle.list_texts.specs.Splitting.{counted, counted_block, item_text, join, join_graph, join_types, put, put_block}
use Rattle.join_laws.specs.Asked.{copying, with_letter}
use Rattle.join_laws.proofs.Items.{item_reads, second_at, text_in}

abbrev pub item_type : Bool → LlType
item_type true = type.Char
item_type false = type.Ptr 0

abbrev pub more_types : Bool → List LlType
more_types true = type.Char ∷ type.Ptr 0 ∷ type.Char ∷ type.Ptr 0 ∷ []
more_types false = type.Ptr 0 ∷ type.Ptr 0 ∷ []

abbrev pub counts_rest : List LlOp
counts_rest = op.Step (Var 12) ∷ op.Binary 11 Add (Var 6) (Var 12) ∷ op.Binary 7 Gt (Var 5) (word_operand (pos 0)) ∷ []

abbrev pub counts_ops : Bool → ℕ → ℕ → List LlOp
counts_ops bytes letter a = item_reads bytes 14 letter a ++ op.GetField 12 0 (text_in bytes 14) 0 ∷ counts_rest

abbrev pub puts_rest : ℕ → ℕ → List LlOp
puts_rest v copies = op.Call None copies (Var v ∷ word_operand (pos 0) ∷ Var 8 ∷ Var 9 ∷ Var 12 ∷ []) ∷ op.Binary 11 Add (Var 9) (Var 12) ∷ op.Binary 10 Add (Var 5) (word_operand (pos 1)) ∷ []

abbrev pub puts_ops : Bool → ℕ → ℕ → ℕ → List LlOp
puts_ops bytes letter a copies = item_reads bytes (second_at bytes) letter a ++ op.GetField 12 0 (text_in bytes (second_at bytes)) 0 ∷ puts_rest (text_in bytes (second_at bytes)) copies

abbrev pub the_join : Bool → Shape → ℕ → ℕ → ℕ → ℕ → LlGraph
the_join bytes s first copies second parts = join_graph s (counted_block (counts_ops bytes first s.array)) copies (put_block (puts_ops bytes second s.array copies)) parts (join_types s ++ more_types bytes)

module _ (layout : Layout) (n : ℕ) (made : Found) where
  abbrev pub shape_with : LlType → Shape
  shape_with ty = record { list = n; array = word (n + 1); item = ty }

  abbrev pub Join_of : Bool → LlGraph
  Join_of bytes = the_join bytes (shape_with (item_type bytes)) (helper_number StrOfChar made).0 (small_number (small.Listed (Copy 0 0)) (with_letter bytes made)).0 (helper_number StrOfChar (copying bytes made)).0 (small_number (small.Listed Part) (with_letter bytes (copying bytes made))).0

  pub join_is : (bytes : Bool) → (join layout (shape_with (item_type bytes)) made).0 ≡ Join_of bytes
  unfolding join counted item_text put variable_of helped value_as join_types
  join_is true = refl
  join_is false = refl

  pub join_graph_is : (bytes : Bool) → item_of layout (word (n + 1)) ≡ item_type bytes → (list_graph layout (Join n) made).0 ≡ Join_of bytes
  join_graph_is bytes h = ap (λ ty. (join layout (shape_with ty) made).0) h ∙ join_is bytes
