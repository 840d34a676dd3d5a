-- An operation that gives a constant sets its place, and nothing else.
use Rattle.std.proofs.Common.{◌≡◌, ℕ, false, List, [], ◌∷◌, length, refl, sym, ap, subst}
use Rattle.csub_tree.specs.State.{Word, Flag}
use Rattle.csub_tree.specs.Layout.{constant}
use Rattle.csub_tree.specs.Operation.{is_unset}
use Rattle.csub_tree.specs.declared.tree.CConst.{CConst}
use Rattle.csub_tree.specs.declared.tree.CConst.TheVariants as low
use Rattle.csub_tree.specs.declared.tree.COperand.TheVariants.{Const as held}
use Rattle.ll_code.specs.State.{At}
use Rattle.ll_code.specs.declared.program.LlType.{LlType}
use Rattle.ll_code.specs.declared.program.LlType.TheVariants as type
use Rattle.ll_code.specs.declared.program.LlOp.TheVariants as op
use Rattle.rpy_tree.specs.Value.{Value as Meant, Text, Nothing, Word as MeantWord, Flag as MeantFlag}
use Rattle.rpy_tree.specs.declared.program.Const.{Const}
use Rattle.rpy_tree.specs.declared.program.Const.TheVariants as const
use Rattle.rpy_meaning.specs.declared.row.Covers.{Covers}
use Rattle.rpy_meaning.specs.declared.row.RowOp.{RowOp}
use Rattle.rpy_meaning.specs.declared.row.RowOp.TheVariants as row
use Rattle.rpy_meaning.specs.Operations.{op as meant_op, constant as meant_of}
use Rattle.rpy_meaning.specs.World.{World, Gives}
use Rattle.rtyper_data.specs.declared.found.Found.{Found}
use Rattle.rtyper_data.specs.Seen.{Around, Place, type_at, Writing}
use Rattle.rtyper_op.specs.Constants.{constant_of, text as text_as}
use Rattle.rtyper_op.specs.Lowering.{lower_op, of_some, literal, constant_to, text_to, set_constant}
use Rattle.lower_laws.specs.Values.{is_plain}
use Rattle.lower_laws.proofs.Single.{sets, gives_word, gives_flag}
use Rattle.lower_laws.proofs.Typing.{place_of_words, place_of_flags}
use Rattle.object_laws.specs.Done.{Follows, references}
use Rattle.object_laws.specs.Known.{Known}
use Rattle.object_laws.specs.Values as high
use Rattle.object_laws.specs.Values.{Plain, Stands}
use Rattle.object_laws.proofs.Passing.{none_passed, sets_last}
use Rattle.conversion_laws.specs.Constants.{IsGiven, ConstantsAreGiven, WordsAreGiven, FlagsAreGiven, StringsAreGiven, NoneIsGiven}
use Rattle.conversion_laws.proofs.Cells.{Begins, begins_same}
use Rattle.conversion_laws.proofs.Constants.{Made, alone_made, constant_made, none_meant, str_is, str_meant, value_typed}

constant_set : (c : CConst) → is_unset (constant c) ≡ false
constant_set (low.Word z) = refl
constant_set (low.Char b) = refl
constant_set (low.Bool b) = refl
constant_set low.Null = refl
constant_set (low.Static n s) = refl
constant_set (low.Fun f) = refl

pub to_constant : (around : Around) (place : Place) (c : Const) (t : LlType) (w : Writing) → (t ≡ type.Void → ⊥) → constant_to around place c t w ≡ set_constant place w.body (constant_of around c t w.found)
to_constant around place c type.Void w there = absurd (there refl)
to_constant around place c type.Signed w there = refl
to_constant around place c type.Char w there = refl
to_constant around place c type.Bool w there = refl
to_constant around place c type.Fn w there = refl
to_constant around place c (type.Ptr n) w there = refl

to_text : (around : Around) (place : Place) (bytes : List ℕ) (t : LlType) (w : Writing) → (t ≡ type.Void → ⊥) → text_to around place bytes t w ≡ set_constant place w.body (text_as bytes t w.found)
to_text around place bytes type.Void w there = absurd (there refl)
to_text around place bytes type.Signed w there = refl
to_text around place bytes type.Char w there = refl
to_text around place bytes type.Bool w there = refl
to_text around place bytes type.Fn w there = refl
to_text around place bytes (type.Ptr n) w there = refl

module _ (known : Known) (around : Around) (o : RowOp) (covers : Covers) (place : Place) (w : Writing) (made : CConst × Found) (v : Meant) (is : lower_op around o place [] w ≡ set_constant place w.body made) (means : (world : World) → meant_op known.program covers o [] world ≡ Gives v world) (it : Made around.layout known place.element made w.found v) where
  pub given : IsGiven known around o covers place w
  given = record {
    ops = op.Set place.variable (held made.0) ∷ [];
    written = ap (λ (w : Writing). w.body.ops) is;
    types = ap (λ (w : Writing). w.body.types) is;
    follows = λ p raised arguments rest e frames core g world has kept r left inside.
        subst (λ answer. Follows 0 known around place p arguments (At (op.Set place.variable (held made.0) ∷ rest) e frames core) rest e frames core g raised (references world.heap []) (length w.body.types) world answer) (sym (means world))
        (sets_last (references world.heap []) (length w.body.types) core (constant made.0) v r left none_passed inside (sets (constant made.0) refl (constant_set made.0))
        (it.holds p (lower_op around o place [] w).found g world.heap world.left core.blocks core.statics has (subst (λ (w : Writing). Begins made.1.statics w.found.statics) (sym is) (begins_same made.1.statics)) kept r));
  }

pub constants_are_given : ConstantsAreGiven
unfolding of_some literal
constants_are_given known around place w covers c value =
    given known around (row.Constant c) covers place w (constant_of around c (type_at around place) w.found) (meant_of known.program.sites c) (to_constant around place c (type_at around place) w (value_typed around known known.program.sites value)) (λ world. refl)
    (constant_made around known known.program.sites w.found value)

pub none_is_given : NoneIsGiven
unfolding of_some literal
none_is_given known around place w covers value =
    given known around row.None covers place w (constant_of around const.None (type_at around place) w.found) Nothing (to_constant around place const.None (type_at around place) w (value_typed around known known.program.sites value)) (λ world. refl)
    (subst (λ v. Made around.layout known place.element (constant_of around const.None (type_at around place) w.found) w.found v) (none_meant around known known.program.sites) (constant_made around known known.program.sites w.found value))

pub words_are_given : WordsAreGiven
unfolding of_some literal
words_are_given known around place w covers z k f =
    let t : type_at around place ≡ type.Signed = place_of_words around.layout place.element k in
    given known around (row.Word z) covers place w (low.Word z, w.found) (MeantWord z) (gives_word around place (held (low.Word z)) w t) (λ world. refl)
    (alone_made refl (λ g. Plain (ap is_plain k) (subst (λ t. Stands g t (Word z) (MeantWord z)) (sym t) (high.word z f))))

pub flags_are_given : FlagsAreGiven
unfolding of_some literal
flags_are_given known around place w covers b k =
    let t : type_at around place ≡ type.Bool = place_of_flags around.layout place.element k in
    given known around (row.Bool b) covers place w (low.Bool b, w.found) (MeantFlag b) (gives_flag around place (held (low.Bool b)) w t) (λ world. refl)
    (alone_made refl (λ g. Plain (ap is_plain k) (subst (λ t. Stands g t (Flag b) (MeantFlag b)) (sym t) (high.flag b))))

pub strings_are_given : StringsAreGiven
unfolding of_some literal
strings_are_given known around place w covers bytes value =
    given known around (row.Str bytes) covers place w (text_as bytes (type_at around place) w.found) (Text bytes) (to_text around place bytes (type_at around place) w (value_typed around known known.program.sites value)) (λ world. refl)
    (subst (λ made. Made around.layout known place.element made w.found (Text bytes)) (str_is around known known.program.sites place.element bytes w.found)
    (subst (λ v. Made around.layout known place.element (constant_of around (const.Str bytes) (type_at around place) w.found) w.found v) (str_meant around known known.program.sites bytes) (constant_made around known known.program.sites w.found value)))
