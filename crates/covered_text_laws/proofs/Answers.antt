-- Where failures are covered, an operation answers what it answers otherwise, but throws their exceptions.
use Rattle.std.proofs.Common.{◌≡◌, ℕ, ℤ, pos, negsuc, ◌-◌, Bool, true, false, ◌&&◌, List, [], ◌∷◌, Option, Some, None, refl}
use Rattle.std.specs.Prelude.{codes, nat_lt, if◌then◌else◌}
use Rattle.rpy_base.specs.declared.outcome.FailName.TheVariants as fail
use Rattle.csub_tree.specs.State.{Value, Block}
use Rattle.ll_code.specs.declared.program.LlType.TheVariants as type
use Rattle.ll_build.specs.declared.needs.Helper.{Helper}
use Rattle.ll_build.specs.declared.needs.Helper.TheVariants as helper
use Rattle.ll_texts.specs.Stands.{Stands, text, missing, word}
use Rattle.rpy_tree.specs.Value.{Value as Meant, Word, Text, Nothing}
use Rattle.rpy_tree.specs.declared.syntax.BinOp.TheVariants as bin
use Rattle.rpy_tree.specs.declared.syntax.CmpOp.TheVariants as compared
use Rattle.rpy_meaning.specs.declared.row.Covers.{Covers}
use Rattle.rpy_meaning.specs.declared.row.RowOp.{RowOp}
use Rattle.rpy_meaning.specs.declared.row.RowOp.TheVariants as row
use Rattle.rpy_meaning.specs.Classes.{no_covers}
use Rattle.rpy_meaning.specs.Operations.{op}
use Rattle.rpy_meaning.specs.Sequences.{byte, item_at, is_bound}
use Rattle.rpy_meaning.specs.Tree.{Program}
use Rattle.rpy_meaning.specs.World.{World, failure, index_error, value_error, give, if_some, paying, negative_slice, Lacks, Gives}
use Rattle.rtyper_data.specs.Finding.{failures_of}
use Rattle.rtyper_raising.specs.Raising.{if_covered}
use Rattle.raise_laws.specs.Helpers.{thrown_or, with_raised}

-- a string or `None`, and a word
pub data IsTextOrNone : Meant → Type 0 where
  AText : (bytes : List ℕ) → IsTextOrNone (Text bytes)
  NoText : IsTextOrNone Nothing

pub data IsNumber : Meant → Type 0 where
  ANumber : (z : ℤ) → IsNumber (Word z)

pub text_or_none : {blocks : List (Option Block)} {statics : List Block} {x : Value} {v : Meant} → Stands blocks statics (type.Ptr 0) x v → IsTextOrNone v
text_or_none (text x bytes t) = AText bytes
text_or_none missing = NoText

pub is_number : {blocks : List (Option Block)} {statics : List Block} {x : Value} {v : Meant} → Stands blocks statics type.Signed x v → IsNumber v
is_number (word z f) = ANumber z

-- the operation answers so for these values
abbrev pub Answers : Helper → RowOp → List Meant → Type 0
Answers h o vs = (program : Program) (c : Covers) (w : World) → op program c o vs w ≡ with_raised (failures_of h c) w (op program no_covers o vs w)

attribute_so : (b : Bool) (w : World) → failure b 9 fail.Attribute w ≡ thrown_or fail.Attribute w (if_covered b 9)
attribute_so true w = refl
attribute_so false w = refl

index_so : (b : Bool) (w : World) → failure b 6 fail.Index w ≡ thrown_or fail.Index w (if_covered b 6)
index_so true w = refl
index_so false w = refl

value_so : (b : Bool) (w : World) → failure b 8 fail.Value w ≡ thrown_or fail.Value w (if_covered b 8)
value_so true w = refl
value_so false w = refl

-- what is paid gives a value, or lacks steps
paying_so : (covers : Covers) (cost : ℕ) (v : Meant) (w : World) → paying cost (give v) w ≡ with_raised covers w (paying cost (give v) w)
paying_so covers cost v w = by (nat_lt w.left cost)
  where
    by : (b : Bool) → (if b then Lacks else Gives v (record w { left = w.left - cost })) ≡ with_raised covers w (if b then Lacks else Gives v (record w { left = w.left - cost }))
    by true = refl
    by false = refl

pub len_answers : {v : Meant} → IsTextOrNone v → Answers helper.StrLen row.Len (v ∷ [])
len_answers (AText bytes) program c w = refl
len_answers NoText program c w = attribute_so c.attribute w

pub walk_answers : (site : ℕ) {v : Meant} → IsTextOrNone v → Answers helper.StrWalk (row.Walk site) (v ∷ [])
walk_answers site (AText bytes) program c w = refl
walk_answers site NoText program c w = attribute_so c.attribute w

pub but_last_answers : (site : ℕ) {v : Meant} → IsTextOrNone v → Answers helper.StrButLast (row.AllButLast site) (v ∷ [])
but_last_answers site (AText bytes) program c w = paying_so _ _ _ w
but_last_answers site NoText program c w = attribute_so c.attribute w

pub index_answers : (literal : Option ℤ) {v u : Meant} → IsTextOrNone v → IsNumber u → Answers helper.StrIndex (row.Index literal) (v ∷ u ∷ [])
index_answers literal (AText bytes) (ANumber z) program c w = by (item_at z bytes)
  where
    by : (o : Option ℕ) → if_some (index_error c) o (λ b. give (byte b)) w ≡ with_raised (failures_of helper.StrIndex c) w (if_some (index_error no_covers) o (λ b. give (byte b)) w)
    by None = index_so c.index w
    by (Some b) = refl
index_answers literal NoText (ANumber z) program c w = attribute_so c.attribute w

pub add_answers : (site : Option ℕ) {v u : Meant} → IsTextOrNone v → IsTextOrNone u → Answers helper.StrAdd (row.Binary bin.Add site) (v ∷ u ∷ [])
add_answers site (AText a) (AText b) program c w = paying_so _ _ _ w
add_answers site (AText a) NoText program c w = attribute_so c.attribute w
add_answers site NoText (AText b) program c w = attribute_so c.attribute w
add_answers site NoText NoText program c w = attribute_so c.attribute w

pub mul_answers : (site : Option ℕ) {v u : Meant} → IsTextOrNone v → IsNumber u → Answers helper.StrMul (row.Binary bin.Mul site) (v ∷ u ∷ [])
mul_answers site (AText a) (ANumber z) program c w = paying_so _ _ _ w
mul_answers site NoText (ANumber z) program c w = attribute_so c.attribute w

cut_so : (c : Covers) (b : Bool) (cost : ℕ) (v : Meant) (w : World) → (if b then paying cost (give v) else negative_slice) w ≡ with_raised (failures_of helper.StrSlice c) w ((if b then paying cost (give v) else negative_slice) w)
cut_so c true cost v w = paying_so (failures_of helper.StrSlice c) cost v w
cut_so c false cost v w = refl

pub slice_answers : (site : ℕ) {v u s : Meant} → IsTextOrNone v → IsNumber u → IsNumber s → Answers helper.StrSlice (row.Slice site true true) (v ∷ u ∷ s ∷ [])
slice_answers site (AText a) (ANumber y) (ANumber z) program c w = cut_so c (is_bound (Some y) && is_bound (Some z)) _ _ w
slice_answers site NoText (ANumber y) (ANumber z) program c w = attribute_so c.attribute w

pub up_to_answers : (site : ℕ) {v u : Meant} → IsTextOrNone v → IsNumber u → Answers helper.StrSlice (row.Slice site false true) (v ∷ u ∷ [])
up_to_answers site (AText a) (ANumber z) program c w = cut_so c (is_bound None && is_bound (Some z)) _ _ w
up_to_answers site NoText (ANumber z) program c w = attribute_so c.attribute w

pub from_answers : (site : ℕ) {v u : Meant} → IsTextOrNone v → IsNumber u → Answers helper.StrSlice (row.Slice site true false) (v ∷ u ∷ [])
from_answers site (AText a) (ANumber z) program c w = cut_so c (is_bound (Some z) && is_bound None) _ _ w
from_answers site NoText (ANumber z) program c w = attribute_so c.attribute w

pub whole_answers : (site : ℕ) {v : Meant} → IsTextOrNone v → Answers helper.StrSlice (row.Slice site false false) (v ∷ [])
whole_answers site (AText a) program c w = cut_so c (is_bound None && is_bound None) _ _ w
whole_answers site NoText program c w = attribute_so c.attribute w

pub chr_answers : {v : Meant} → IsNumber v → Answers helper.WordChr row.Chr (v ∷ [])
chr_answers (ANumber (pos n)) program c w = by (nat_lt n 256)
  where
    by : (b : Bool) → (if b then give (byte n) else value_error c) w ≡ with_raised (failures_of helper.WordChr c) w ((if b then give (byte n) else value_error no_covers) w)
    by true = refl
    by false = value_so c.number w
chr_answers (ANumber (negsuc n)) program c w = value_so c.number w

pub strip_answers : (site : Option ℕ) {v : Meant} → IsTextOrNone v → Answers helper.StrStrip (row.Method (codes "strip") site) (v ∷ [])
strip_answers site (AText a) program c w = paying_so _ _ _ w
strip_answers site NoText program c w = attribute_so c.attribute w

-- the part may be missing only where nothing is asked
pub starts_answers : (site : Option ℕ) {v u : Meant} → IsTextOrNone v → IsTextOrNone u → Answers helper.StrStartsWith (row.Method (codes "startswith") site) (v ∷ u ∷ [])
starts_answers site (AText a) (AText b) program c w = refl
starts_answers site (AText a) NoText program c w = refl
starts_answers site NoText u program c w = attribute_so c.attribute w

pub ends_answers : (site : Option ℕ) {v u : Meant} → IsTextOrNone v → IsTextOrNone u → Answers helper.StrEndsWith (row.Method (codes "endswith") site) (v ∷ u ∷ [])
ends_answers site (AText a) (AText b) program c w = refl
ends_answers site (AText a) NoText program c w = refl
ends_answers site NoText u program c w = attribute_so c.attribute w

pub find_answers : (site : Option ℕ) {v u : Meant} → IsTextOrNone v → IsTextOrNone u → Answers helper.StrFind (row.Method (codes "find") site) (v ∷ u ∷ [])
find_answers site (AText a) (AText b) program c w = refl
find_answers site (AText a) NoText program c w = refl
find_answers site NoText u program c w = attribute_so c.attribute w

pub within_answers : {v u : Meant} → IsTextOrNone v → IsTextOrNone u → Answers helper.StrContains (row.Compare compared.Within) (v ∷ u ∷ [])
within_answers (AText a) (AText b) program c w = refl
within_answers NoText (AText b) program c w = refl
within_answers (AText a) NoText program c w = attribute_so c.attribute w
within_answers NoText NoText program c w = attribute_so c.attribute w
