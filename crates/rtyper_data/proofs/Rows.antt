-- Worked lowerings, which compute.
use Rattle.std.proofs.Common.{◌≡◌, [], ◌∷◌, Some, refl, negsuc}
use Rattle.csub_tree.specs.declared.tree.CBinary.TheVariants as binary
use Rattle.csub_tree.specs.declared.tree.CUnary.TheVariants as unary
use Rattle.csub_tree.specs.declared.tree.COperand.TheVariants.{Var}
use Rattle.ll_code.specs.declared.program.LlType.TheVariants as type
use Rattle.ll_code.specs.declared.program.LlOp.TheVariants as op
use Rattle.ll_build.specs.declared.needs.Helper.TheVariants as helper
use Rattle.rtyper_layout.specs.declared.layout.Layout.{Layout}
use Rattle.rtyper_data.specs.declared.body.Body.{Body}
use Rattle.rtyper_data.specs.declared.found.Found.{Found}
use Rattle.rtyper_data.specs.declared.small.Small.TheVariants as small
use Rattle.rtyper_data.specs.Comparing.{equal}
use Rattle.rtyper_data.specs.Converting.{value_as, helped}
use Rattle.rtyper_data.specs.Finding.{nothing, helper_number, small_number}
use Rattle.rtyper_data.specs.Seen.{writing}
use Rattle.rtyper_data.specs.Tuples.{place_of, set_fields}

abbrev layout : Layout
layout = record { structs = []; classes = []; order = []; methods = []; first_list = 1; lists = []; first_dict = 1; dicts = []; mappings = []; first_tuple = 1; shapes = [] }

abbrev none : Found
none = record { needs = []; caught = []; covered = nothing; statics = []; prebuilt = []; smalls = []; first_small = 7 }

-- the need of the string of a byte
abbrev one : Found
one = record none { needs = record { helper = helper.StrOfChar; item = type.Void; key = type.Void } ∷ []; caught = nothing ∷ [] }

abbrev body : Body
body = record { types = type.Char ∷ type.Char ∷ []; ops = [] }

a_byte_as_a_string : value_as layout (Var 0) type.Char (type.Ptr 0) (writing none body)
    ≡ (Var 2, writing one (record { types = type.Char ∷ type.Char ∷ type.Ptr 0 ∷ []; ops = op.Call (Some 2) 0 (Var 0 ∷ []) ∷ [] }))
unfolding value_as helped helper_number
a_byte_as_a_string = refl

a_byte_as_a_byte : value_as layout (Var 0) type.Char type.Char (writing none body) ≡ (Var 0, writing none body)
unfolding value_as
a_byte_as_a_byte = refl

the_first_small_graph : (small_number (small.Cast 3 4) none).0 ≡ 7
unfolding small_number
the_first_small_graph = refl

-- bytes are equal as their numbers are
bytes_are_equal : (equal layout (Var 0) type.Char (Var 1) type.Char (writing none body)).1.body.ops
    ≡ op.Unary 2 unary.C2S (Var 0) ∷ op.Unary 3 unary.C2S (Var 1) ∷ op.Binary 4 binary.Eq (Var 2) (Var 3) ∷ []
unfolding equal
bytes_are_equal = refl

the_last_item : place_of (negsuc 0) 3 ≡ 2
the_last_item = refl

fields : (set_fields 5 9 0 (Var 0 ∷ Var 1 ∷ []) body).ops ≡ op.SetField 5 9 0 (Var 0) ∷ op.SetField 5 9 1 (Var 1) ∷ []
fields = refl
