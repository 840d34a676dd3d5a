-- The operations of helpers on strings and bytes.
use Rattle.std.proofs.Common.{◌≡◌, ℕ, Bool, true, false, List, [], ◌∷◌, ◌++◌, length, Option, Some, None, ℤ, refl, sym, ap, ◌∙◌, append_assoc}
use Rattle.std.proofs.lemmas.List.{append-nil}
use Rattle.std.specs.Prelude.{◌&&◌, not, option_map, slice_get, if◌then◌else◌, codes}
use Rattle.ll_code.specs.declared.program.LlType.{LlType}
use Rattle.ll_code.specs.declared.program.LlType.TheVariants as type
use Rattle.ll_code.specs.declared.program.LlOp.TheVariants as op
use Rattle.csub_tree.specs.declared.tree.COperand.{COperand}
use Rattle.csub_tree.specs.declared.tree.COperand.TheVariants.{Var}
use Rattle.csub_tree.specs.declared.tree.CUnary.TheVariants as unary
use Rattle.ll_build.specs.declared.needs.Helper.{Helper}
use Rattle.ll_build.specs.declared.needs.Helper.TheVariants as helper
use Rattle.ll_strings.proofs.Adding.{add_is}
use Rattle.ll_strings.proofs.Asking.{len_is, index_is, has_item_is, item_is}
use Rattle.ll_strings.proofs.Finding.{starts_is, ends_is, find_is, contains_is}
use Rattle.ll_strings.proofs.Equal.{equal_is}
use Rattle.ll_strings.proofs.Ordered.{less_is}
use Rattle.ll_strings.proofs.Repeating.{mul_is}
use Rattle.ll_strings.proofs.Slices.{but_last_is}
use Rattle.ll_strings.proofs.Stripping.{strip_is}
use Rattle.rpy_tree.specs.declared.syntax.BinOp.TheVariants as bin
use Rattle.rpy_tree.specs.declared.syntax.CmpOp.{CmpOp}
use Rattle.rpy_tree.specs.declared.syntax.CmpOp.TheVariants as compared
use Rattle.rpy_meaning.specs.Classes.{no_covers}
use Rattle.rpy_meaning.specs.Compare.{equal as meant_equal, less as meant_less}
use Rattle.rpy_meaning.specs.Operations.{within as meant_within}
use Rattle.rpy_meaning.specs.Sequences.{is_in_object}
use Rattle.rpy_meaning.specs.World.{World, flag_if_any}
use Rattle.rpy_tree.specs.Value.{Value as Meant, Object, Word, Flag as MeantFlag, Text, Nothing, Tuple, Fun, Ref}
use Rattle.rtyper_layout.specs.declared.layout.Layout.{Layout}
use Rattle.rpy_meaning.specs.declared.row.RowOp.TheVariants as row
use Rattle.rtyper_layout.specs.declared.kind.Kind.{Kind}
use Rattle.rtyper_layout.specs.declared.kind.Kind.TheVariants as kind
use Rattle.rtyper_layout.specs.Kinds.{kind_seen, is_text, is_text_or_none}
use Rattle.rtyper_data.specs.Comparing.{compare, equal, texts_equal, within, within_by, within_text, ordered, ordered_by, opposite_if, opposite_of, texts_less, texts_less_by}
use Rattle.rtyper_data.specs.Converting.{given, value_as, give_made, helped as asks_helper}
use Rattle.rtyper_data.specs.Finding.{helper_number}
use Rattle.rtyper_op.specs.Lowering.{lower_op, lowered, never_comes, of_some, of_one, of_two, binary_to, method_by}
use Rattle.rtyper_op.specs.Placing.{says_nothing, len, len_by, index, index_by, has_item, walk_item, sum, sum_by, product, product_by}
use Rattle.rtyper_data.specs.Seen.{Around, Operand, Place, type_of, kind_of, Writing, writing}
use Rattle.rtyper_op.specs.Texts.{of_text, of_texts, of_text_and_word, text_type, byte_method, method, of_byte, text_method_by}
use Rattle.rtyper_op.specs.Texts.{of_two as methods_of_two}
use Rattle.lower_laws.specs.Asked.{Help}
use Rattle.lower_laws.specs.Done.{IsDone}
use Rattle.lower_laws.specs.Texted.{asks_of, OnText, OnTexts, OnTextAndWord, IsMethod, IsMethodOfTwo, AreTold}
use Rattle.lower_laws.proofs.Coming.{one_comes, two_come}
use Rattle.lower_laws.proofs.Flags.{reversed, opposite_is_reversed, straight_is, turned_is}
use Rattle.lower_laws.proofs.Typing.{place_of_flags, place_of_bytes, place_of_strings}
use Rattle.lower_laws.proofs.Texted.{Texted, Tells, one_done, two_done, word_done, straight_done, turned_done, texted, text_comes}

-- what is the same for each kind of string
by_kind : {A : Type 0} (f : Kind → A) (x : A) (k : Kind) → is_text_or_none k ≡ true → f kind.Byte ≡ x → f kind.Text ≡ x → f kind.MaybeText ≡ x → f kind.Nothing ≡ x → f k ≡ x
by_kind f x kind.Byte h a b c d = a
by_kind f x kind.Text h a b c d = b
by_kind f x kind.MaybeText h a b c d = c
by_kind f x kind.Nothing h a b c d = d
by_kind f x _ h a b c d = absurd (cc)

-- ---- of one

pub len_is_strung : OnText helper.StrLen row.Len type.Signed
unfolding of_some of_one len
len_is_strung around place a w ka takes = one_done around row.Len helper.StrLen type.Signed place a w takes len_is
    (one_comes around row.Len place a w (text_comes (kind_of a) ka) ∙ by_kind (λ k. len_by k around place a w) (of_text around place helper.StrLen type.Signed a w) (kind_of a) ka refl refl refl refl) ka

pub but_last_is_strung : (site : ℕ) → OnText helper.StrButLast (row.AllButLast site) (type.Ptr 0)
unfolding of_some of_one
but_last_is_strung site around place a w ka takes = one_done around (row.AllButLast site) helper.StrButLast (type.Ptr 0) place a w takes (but_last_is site)
    (one_comes around (row.AllButLast site) place a w (text_comes (kind_of a) ka) ∙ ap (λ c. if c then of_text around place helper.StrButLast text_type a w else w) ka) ka

-- ---- of two

sum_written : (around : Around) (place : Place) (a b : Operand) (w : Writing) → is_text_or_none (kind_of a) ≡ true → is_text_or_none (kind_of b) ≡ true → sum around place a b w ≡ of_texts around place helper.StrAdd (type.Ptr 0) a b w
unfolding sum
sum_written around place a b w ka kb =
    by_kind (λ k. sum_by k (kind_of b) around place a b w) (if is_text_or_none (kind_of b) then of_texts around place helper.StrAdd text_type a b w else w) (kind_of a) ka refl refl refl refl
    ∙ ap (λ c. if c then of_texts around place helper.StrAdd text_type a b w else w) kb

pub add_is_strung : (site : Option ℕ) → OnTexts helper.StrAdd (row.Binary bin.Add site) (type.Ptr 0)
unfolding of_some of_two binary_to
add_is_strung site around place a b w ka kb takes = two_done around (row.Binary bin.Add site) helper.StrAdd (type.Ptr 0) place a b w takes (add_is site)
    (two_come around (row.Binary bin.Add site) place a b w (text_comes (kind_of a) ka) (text_comes (kind_of b) kb) ∙ sum_written around place a b w ka kb) ka kb

pub mul_is_strung : (site : Option ℕ) → OnTextAndWord helper.StrMul (row.Binary bin.Mul site) (type.Ptr 0)
unfolding of_some of_two binary_to product
mul_is_strung site around place a b w ka kb takes = word_done around (row.Binary bin.Mul site) helper.StrMul (type.Ptr 0) place a b w takes (mul_is site)
    (two_come around (row.Binary bin.Mul site) place a b w (text_comes (kind_of a) ka) (ap never_comes kb) ∙ by_kind (λ k. product_by k around place a b w) (of_text_and_word around place helper.StrMul text_type a b w) (kind_of a) ka refl refl refl refl) ka kb

pub index_is_strung : (literal : Option ℤ) → OnTextAndWord helper.StrIndex (row.Index literal) type.Char
unfolding of_some of_two index
index_is_strung literal around place a b w ka kb takes = word_done around (row.Index literal) helper.StrIndex type.Char place a b w takes (index_is literal)
    (two_come around (row.Index literal) place a b w (text_comes (kind_of a) ka) (ap never_comes kb) ∙ by_kind (λ k. index_by k literal around place a b w) (of_text_and_word around place helper.StrIndex type.Char a b w) (kind_of a) ka refl refl refl refl) ka kb

pub has_item_is_strung : OnTextAndWord helper.StrHasItem (row.HasItem None) type.Bool
unfolding of_some of_two has_item
has_item_is_strung around place a b w ka kb takes = word_done around (row.HasItem None) helper.StrHasItem type.Bool place a b w takes has_item_is
    (two_come around (row.HasItem None) place a b w (text_comes (kind_of a) ka) (ap never_comes kb) ∙ ap (λ c. if c then of_text_and_word around place helper.StrHasItem type.Bool a b w else says_nothing around place w) ka) ka kb

pub item_is_strung : OnTextAndWord helper.StrItem (row.Item None) type.Char
unfolding of_some of_two walk_item
item_is_strung around place a b w ka kb takes = word_done around (row.Item None) helper.StrItem type.Char place a b w takes item_is
    (two_come around (row.Item None) place a b w (text_comes (kind_of a) ka) (ap never_comes kb) ∙ ap (λ c. if c then of_text_and_word around place helper.StrItem type.Char a b w else says_nothing around place w) ka) ka kb

-- ---- methods

-- one of `None` fails, and any other is one of a string
method_is : (around : Around) (place : Place) (name : List ℕ) (args : List Operand) (w : Writing) (k : Kind) → is_text_or_none k ≡ true → (k ≡ kind.Nothing → ⊥) → method_by k around place name args w ≡ method around place name args w
method_is around place name args w kind.Byte h n = refl
method_is around place name args w kind.Text h n = refl
method_is around place name args w kind.MaybeText h n = refl
method_is around place name args w kind.Nothing h n = absurd (n refl)
method_is around place name args w _ h n = absurd (cc)

pub strip_is_strung : (site : Option ℕ) → IsMethod helper.StrStrip (row.Method (codes "strip") site) (type.Ptr 0)
unfolding byte_method of_byte
strip_is_strung site around place a w ka none takes = one_done around (row.Method (codes "strip") site) helper.StrStrip (type.Ptr 0) place a w takes (strip_is site)
    (one_comes around (row.Method (codes "strip") site) place a w (text_comes (kind_of a) ka) ∙ method_is around place (codes "strip") (a ∷ []) w (kind_of a) ka none
    ∙ ap (λ c. if c then of_text around place helper.StrStrip text_type a w else w) ka) ka

of_two_is : (around : Around) (place : Place) (h : Helper) (t : LlType) (a b : Operand) (w : Writing) → is_text_or_none (kind_of a) ≡ true → is_text (kind_of b) ≡ true → text_method_by (Some (h, t)) (is_text_or_none (kind_of a) && is_text (kind_of b)) around place a b w ≡ of_texts around place h t a b w
of_two_is around place h t a b w ka kb = ap (λ c. text_method_by (Some (h, t)) (c && is_text (kind_of b)) around place a b w) ka ∙ ap (λ c. text_method_by (Some (h, t)) c around place a b w) kb

pub text_is : (k : Kind) → is_text k ≡ true → is_text_or_none k ≡ true
text_is kind.Byte h = refl
text_is kind.Text h = refl
text_is _ h = absurd (cc)

pub starts_is_strung : (site : Option ℕ) → IsMethodOfTwo helper.StrStartsWith (row.Method (codes "startswith") site) type.Bool
unfolding methods_of_two
starts_is_strung site around place a b w ka none kb takes = two_done around (row.Method (codes "startswith") site) helper.StrStartsWith type.Bool place a b w takes (starts_is site)
    (two_come around (row.Method (codes "startswith") site) place a b w (text_comes (kind_of a) ka) (text_comes (kind_of b) (text_is (kind_of b) kb)) ∙ method_is around place (codes "startswith") (a ∷ b ∷ []) w (kind_of a) ka none
    ∙ of_two_is around place helper.StrStartsWith type.Bool a b w ka kb) ka (text_is (kind_of b) kb)

pub ends_is_strung : (site : Option ℕ) → IsMethodOfTwo helper.StrEndsWith (row.Method (codes "endswith") site) type.Bool
unfolding methods_of_two
ends_is_strung site around place a b w ka none kb takes = two_done around (row.Method (codes "endswith") site) helper.StrEndsWith type.Bool place a b w takes (ends_is site)
    (two_come around (row.Method (codes "endswith") site) place a b w (text_comes (kind_of a) ka) (text_comes (kind_of b) (text_is (kind_of b) kb)) ∙ method_is around place (codes "endswith") (a ∷ b ∷ []) w (kind_of a) ka none
    ∙ of_two_is around place helper.StrEndsWith type.Bool a b w ka kb) ka (text_is (kind_of b) kb)

pub find_is_strung : (site : Option ℕ) → IsMethodOfTwo helper.StrFind (row.Method (codes "find") site) type.Signed
unfolding methods_of_two
find_is_strung site around place a b w ka none kb takes = two_done around (row.Method (codes "find") site) helper.StrFind type.Signed place a b w takes (find_is site)
    (two_come around (row.Method (codes "find") site) place a b w (text_comes (kind_of a) ka) (text_comes (kind_of b) (text_is (kind_of b) kb)) ∙ method_is around place (codes "find") (a ∷ b ∷ []) w (kind_of a) ka none
    ∙ of_two_is around place helper.StrFind type.Signed a b w ka kb) ka (text_is (kind_of b) kb)

-- ---- comparisons

-- a string beside a byte, or two strings
mixed : {A : Type 0} (f : Kind → Kind → A) (x : A) (j k : Kind) → is_text j ≡ true → is_text k ≡ true → (j ≡ kind.Byte → k ≡ kind.Byte → ⊥) → f kind.Byte kind.Text ≡ x → f kind.Text kind.Byte ≡ x → f kind.Text kind.Text ≡ x → f j k ≡ x
mixed f x kind.Byte kind.Byte g h n a b c = absurd (n refl refl)
mixed f x kind.Byte kind.Text g h n a b c = a
mixed f x kind.Text kind.Byte g h n a b c = b
mixed f x kind.Text kind.Text g h n a b c = c
mixed f x kind.Byte _ g h n a b c = absurd (cc)
mixed f x kind.Text _ g h n a b c = absurd (cc)
mixed f x _ k g h n a b c = absurd (cc)

-- what is written for an order: the helper's answer, or its opposite
order_is : (around : Around) (place : Place) (o : CmpOp) (a b : Operand) (w : Writing) → is_text (kind_of a) ≡ true → is_text (kind_of b) ≡ true → (kind_of a ≡ kind.Byte → kind_of b ≡ kind.Byte → ⊥) → ordered around o a b w ≡ texts_less around o a b w
unfolding ordered
order_is around place o a b w ka kb n = mixed (λ j k. ordered_by j k around o a b w) (texts_less around o a b w) (kind_of a) (kind_of b) ka kb n refl refl refl

less_so : (around : Around) (o : CmpOp) (a b : Operand) (w : Writing) (A : Texted around a w) (B : Texted around b A.next) → texts_less around o a b w ≡ texts_less_by o A.x (B.x, B.next)
less_so around o a b w A B = ap (λ (x : COperand × Writing). texts_less_by o x.0 (given around b (type.Ptr 0) x.1)) A.is ∙ ap (λ (y : COperand × Writing). texts_less_by o A.x y) B.is

-- equality of a byte and a string, of a string and a byte, and of two strings
beside_text_is : (layout : Layout) (x y : COperand) (w : Writing) → equal layout x type.Char y (type.Ptr 0) w ≡ texts_equal layout x type.Char y (type.Ptr 0) w
unfolding equal
beside_text_is layout x y w = refl

beside_byte_is : (layout : Layout) (x y : COperand) (w : Writing) → equal layout x (type.Ptr 0) y type.Char w ≡ texts_equal layout x (type.Ptr 0) y type.Char w
unfolding equal
beside_byte_is layout x y w = refl

both_texts_are : (layout : Layout) (x y : COperand) (w : Writing) → equal layout x (type.Ptr 0) y (type.Ptr 0) w ≡ texts_equal layout x (type.Ptr 0) y (type.Ptr 0) w
unfolding equal texts_equal value_as
both_texts_are layout x y w = refl

-- the answer goes where it is wanted
straight_written : (around : Around) (place : Place) (h : Helper) (xs : List COperand) (w : Writing) → kind_seen place.element ≡ kind.Flag → give_made around place type.Bool (opposite_of false (asks_helper h type.Bool xs w))
    ≡ writing (helper_number h w.found).1 (record { types = (w.body.types ++ type.Bool ∷ []) ++ []; ops = (w.body.ops ++ op.Call (Some (length w.body.types)) (helper_number h w.found).0 xs ∷ []) ++ op.Set place.variable (Var (length w.body.types)) ∷ [] })
unfolding opposite_if
straight_written around place h xs w flags = straight_is around place h xs w (place_of_flags around.layout place.element flags)
    ∙ ap (λ ts. writing (helper_number h w.found).1 (record { types = ts; ops = (w.body.ops ++ op.Call (Some (length w.body.types)) (helper_number h w.found).0 xs ∷ []) ++ op.Set place.variable (Var (length w.body.types)) ∷ [] })) (sym (append-nil (w.body.types ++ type.Bool ∷ [])))

turned_written : (around : Around) (place : Place) (h : Helper) (xs : List COperand) (w : Writing) → kind_seen place.element ≡ kind.Flag → give_made around place type.Bool (opposite_of true (asks_helper h type.Bool xs w))
    ≡ writing (helper_number h w.found).1 (record {
      types = (w.body.types ++ type.Bool ∷ []) ++ type.Bool ∷ [];
      ops = (w.body.ops ++ op.Call (Some (length w.body.types)) (helper_number h w.found).0 xs ∷ []) ++ op.Unary (length (w.body.types ++ type.Bool ∷ [])) unary.Not (Var (length w.body.types)) ∷ op.Set place.variable (Var (length (w.body.types ++ type.Bool ∷ []))) ∷ [];
    })
turned_written around place h xs w flags = turned_is around place h xs w (place_of_flags around.layout place.element flags)
    ∙ ap (λ os. writing (helper_number h w.found).1 (record { types = (w.body.types ++ type.Bool ∷ []) ++ type.Bool ∷ []; ops = os }))
    (append_assoc (w.body.ops ++ op.Call (Some (length w.body.types)) (helper_number h w.found).0 xs ∷ []) (op.Unary (length (w.body.types ++ type.Bool ∷ [])) unary.Not (Var (length w.body.types)) ∷ []) (op.Set place.variable (Var (length (w.body.types ++ type.Bool ∷ []))) ∷ []))

-- whether it is outside is the opposite of whether it is within
in_object : (v : Meant) (object : Option Object) (world : World) → flag_if_any (option_map not (is_in_object v object)) world ≡ reversed (flag_if_any (option_map (λ b. b) (is_in_object v object)) world)
in_object v object world = by (is_in_object v object)
  where
    by : (t : Option Bool) → flag_if_any (option_map not t) world ≡ reversed (flag_if_any (option_map (λ b. b) t) world)
    by None = refl
    by (Some b) = refl

outside_reversed : (v u : Meant) (world : World) → meant_within no_covers not v u world ≡ reversed (meant_within no_covers (λ b. b) v u world)
outside_reversed (Word z) (Word y) world = refl
outside_reversed (Word z) (MeantFlag d) world = refl
outside_reversed (Word z) (Text text) world = refl
outside_reversed (Word z) Nothing world = refl
outside_reversed (Word z) (Tuple us) world = refl
outside_reversed (Word z) (Fun g) world = refl
outside_reversed (Word z) (Ref r) world = in_object (Word z) (slice_get world.heap r) world
outside_reversed (MeantFlag c) (Word y) world = refl
outside_reversed (MeantFlag c) (MeantFlag d) world = refl
outside_reversed (MeantFlag c) (Text text) world = refl
outside_reversed (MeantFlag c) Nothing world = refl
outside_reversed (MeantFlag c) (Tuple us) world = refl
outside_reversed (MeantFlag c) (Fun g) world = refl
outside_reversed (MeantFlag c) (Ref r) world = in_object (MeantFlag c) (slice_get world.heap r) world
outside_reversed (Text part) (Word y) world = refl
outside_reversed (Text part) (MeantFlag d) world = refl
outside_reversed (Text part) (Text text) world = refl
outside_reversed (Text part) Nothing world = refl
outside_reversed (Text part) (Tuple us) world = refl
outside_reversed (Text part) (Fun g) world = refl
outside_reversed (Text part) (Ref r) world = in_object (Text part) (slice_get world.heap r) world
outside_reversed Nothing (Word y) world = refl
outside_reversed Nothing (MeantFlag d) world = refl
outside_reversed Nothing (Text text) world = refl
outside_reversed Nothing Nothing world = refl
outside_reversed Nothing (Tuple us) world = refl
outside_reversed Nothing (Fun g) world = refl
outside_reversed Nothing (Ref r) world = in_object Nothing (slice_get world.heap r) world
outside_reversed (Tuple vs) (Word y) world = refl
outside_reversed (Tuple vs) (MeantFlag d) world = refl
outside_reversed (Tuple vs) (Text text) world = refl
outside_reversed (Tuple vs) Nothing world = refl
outside_reversed (Tuple vs) (Tuple us) world = refl
outside_reversed (Tuple vs) (Fun g) world = refl
outside_reversed (Tuple vs) (Ref r) world = in_object (Tuple vs) (slice_get world.heap r) world
outside_reversed (Fun f) (Word y) world = refl
outside_reversed (Fun f) (MeantFlag d) world = refl
outside_reversed (Fun f) (Text text) world = refl
outside_reversed (Fun f) Nothing world = refl
outside_reversed (Fun f) (Tuple us) world = refl
outside_reversed (Fun f) (Fun g) world = refl
outside_reversed (Fun f) (Ref r) world = in_object (Fun f) (slice_get world.heap r) world
outside_reversed (Ref q) (Word y) world = refl
outside_reversed (Ref q) (MeantFlag d) world = refl
outside_reversed (Ref q) (Text text) world = refl
outside_reversed (Ref q) Nothing world = refl
outside_reversed (Ref q) (Tuple us) world = refl
outside_reversed (Ref q) (Fun g) world = refl
outside_reversed (Ref q) (Ref r) world = in_object (Ref q) (slice_get world.heap r) world

-- the other way round
greater_tells : Tells helper.StrLess true (row.Compare compared.Gt)
greater_tells program p args numbers f frames core w has left x y v u sx sy = less_is program p args numbers f frames core w has left y x u v sy sx

module _ (around : Around) (place : Place) (a b : Operand) (w : Writing) (ka : is_text (kind_of a) ≡ true) (kb : is_text (kind_of b) ≡ true) (n : kind_of a ≡ kind.Byte → kind_of b ≡ kind.Byte → ⊥) (flags : kind_seen place.element ≡ kind.Flag) where
  abbrev TA : is_text_or_none (kind_of a) ≡ true
  TA = text_is (kind_of a) ka

  abbrev TB : is_text_or_none (kind_of b) ≡ true
  TB = text_is (kind_of b) kb

  abbrev X : Texted around a w
  X = texted around a w (kind_of a) refl TA

  abbrev Y : Texted around b X.next
  Y = texted around b X.next (kind_of b) refl TB

  comes : (o : CmpOp) → lower_op around (row.Compare o) place (a ∷ b ∷ []) w ≡ lowered around place (row.Compare o) (a ∷ b ∷ []) w
  comes o = two_come around (row.Compare o) place a b w (text_comes (kind_of a) TA) (text_comes (kind_of b) TB)

  pub less_strung : IsDone around (row.Compare compared.Lt) no_covers (asks_of a ++ (asks_of b ++ Help helper.StrLess ∷ [])) place (a ∷ b ∷ []) w
  unfolding of_some of_two compare
  less_strung = straight_done around (row.Compare compared.Lt) (row.Compare compared.Lt) helper.StrLess false place a b w flags less_is TA TB
      (comes compared.Lt ∙ ap (give_made around place type.Bool) (order_is around place compared.Lt a b w ka kb n ∙ less_so around compared.Lt a b w X Y) ∙ straight_written around place helper.StrLess (X.x ∷ Y.x ∷ []) Y.next flags) refl

  pub greater_strung : IsDone around (row.Compare compared.Gt) no_covers (asks_of a ++ (asks_of b ++ Help helper.StrLess ∷ [])) place (a ∷ b ∷ []) w
  unfolding of_some of_two compare
  greater_strung = straight_done around (row.Compare compared.Gt) (row.Compare compared.Gt) helper.StrLess true place a b w flags greater_tells TA TB
      (comes compared.Gt ∙ ap (give_made around place type.Bool) (order_is around place compared.Gt a b w ka kb n ∙ less_so around compared.Gt a b w X Y) ∙ straight_written around place helper.StrLess (Y.x ∷ X.x ∷ []) Y.next flags) refl

  pub at_most_strung : IsDone around (row.Compare compared.Le) no_covers (asks_of a ++ (asks_of b ++ Help helper.StrLess ∷ [])) place (a ∷ b ∷ []) w
  unfolding of_some of_two compare
  at_most_strung = turned_done around (row.Compare compared.Le) (row.Compare compared.Gt) helper.StrLess true place a b w flags greater_tells TA TB
      (comes compared.Le ∙ ap (give_made around place type.Bool) (order_is around place compared.Le a b w ka kb n ∙ less_so around compared.Le a b w X Y) ∙ turned_written around place helper.StrLess (Y.x ∷ X.x ∷ []) Y.next flags)
      (λ program v u world. opposite_is_reversed (meant_less u v) world)

  pub at_least_strung : IsDone around (row.Compare compared.Ge) no_covers (asks_of a ++ (asks_of b ++ Help helper.StrLess ∷ [])) place (a ∷ b ∷ []) w
  unfolding of_some of_two compare
  at_least_strung = turned_done around (row.Compare compared.Ge) (row.Compare compared.Lt) helper.StrLess false place a b w flags less_is TA TB
      (comes compared.Ge ∙ ap (give_made around place type.Bool) (order_is around place compared.Ge a b w ka kb n ∙ less_so around compared.Ge a b w X Y) ∙ turned_written around place helper.StrLess (X.x ∷ Y.x ∷ []) Y.next flags)
      (λ program v u world. opposite_is_reversed (meant_less v u) world)

  equal_so : equal around.layout a.x (type_of around a) b.x (type_of around b) w ≡ asks_helper helper.StrEqual type.Bool (X.x ∷ Y.x ∷ []) Y.next
  unfolding texts_equal
  equal_so = are_texts (kind_of a) (kind_of b) refl refl ka kb
      ∙ ap (λ (x : COperand × Writing). asks_helper helper.StrEqual type.Bool (x.0 ∷ (given around b (type.Ptr 0) x.1).0 ∷ []) (given around b (type.Ptr 0) x.1).1) X.is ∙ ap (λ (y : COperand × Writing). asks_helper helper.StrEqual type.Bool (X.x ∷ y.0 ∷ []) y.1) Y.is
    where
      at_types : (s t : LlType) → type_of around a ≡ s → type_of around b ≡ t → equal around.layout a.x s b.x t w ≡ texts_equal around.layout a.x s b.x t w → equal around.layout a.x (type_of around a) b.x (type_of around b) w ≡ texts_equal around.layout a.x (type_of around a) b.x (type_of around b) w
      at_types s t hs ht e =
          ap (λ s. equal around.layout a.x s b.x (type_of around b) w) hs ∙ ap (λ t. equal around.layout a.x s b.x t w) ht ∙ e
          ∙ ap (λ t. texts_equal around.layout a.x s b.x t w) (sym ht) ∙ ap (λ s. texts_equal around.layout a.x s b.x (type_of around b) w) (sym hs)

      are_texts : (j k : Kind) → kind_of a ≡ j → kind_of b ≡ k → is_text j ≡ true → is_text k ≡ true → equal around.layout a.x (type_of around a) b.x (type_of around b) w ≡ texts_equal around.layout a.x (type_of around a) b.x (type_of around b) w
      are_texts kind.Byte kind.Byte ea eb j k = absurd (n ea eb)
      are_texts kind.Byte kind.Text ea eb j k = at_types type.Char (type.Ptr 0) (place_of_bytes around.layout a.element ea) (place_of_strings around.layout b.element eb) (beside_text_is around.layout a.x b.x w)
      are_texts kind.Text kind.Byte ea eb j k = at_types (type.Ptr 0) type.Char (place_of_strings around.layout a.element ea) (place_of_bytes around.layout b.element eb) (beside_byte_is around.layout a.x b.x w)
      are_texts kind.Text kind.Text ea eb j k = at_types (type.Ptr 0) (type.Ptr 0) (place_of_strings around.layout a.element ea) (place_of_strings around.layout b.element eb) (both_texts_are around.layout a.x b.x w)
      are_texts kind.Byte _ ea eb j k = absurd (cc)
      are_texts kind.Text _ ea eb j k = absurd (cc)
      are_texts _ k ea eb j l = absurd (cc)

  pub equal_strung : IsDone around (row.Compare compared.Eq) no_covers (asks_of a ++ (asks_of b ++ Help helper.StrEqual ∷ [])) place (a ∷ b ∷ []) w
  unfolding of_some of_two compare
  equal_strung = straight_done around (row.Compare compared.Eq) (row.Compare compared.Eq) helper.StrEqual false place a b w flags equal_is TA TB
      (comes compared.Eq ∙ ap (λ made. give_made around place type.Bool (opposite_of false made)) equal_so ∙ straight_written around place helper.StrEqual (X.x ∷ Y.x ∷ []) Y.next flags) refl

  pub unequal_strung : IsDone around (row.Compare compared.Ne) no_covers (asks_of a ++ (asks_of b ++ Help helper.StrEqual ∷ [])) place (a ∷ b ∷ []) w
  unfolding of_some of_two compare
  unequal_strung = turned_done around (row.Compare compared.Ne) (row.Compare compared.Eq) helper.StrEqual false place a b w flags equal_is TA TB
      (comes compared.Ne ∙ ap (λ made. give_made around place type.Bool (opposite_of true made)) equal_so ∙ turned_written around place helper.StrEqual (X.x ∷ Y.x ∷ []) Y.next flags)
      (λ program v u world. opposite_is_reversed (meant_equal v u) world)

  within_so : within around a b w ≡ asks_helper helper.StrContains type.Bool (X.x ∷ Y.x ∷ []) Y.next
  unfolding within
  within_so = mixed (λ j k. within_by j k around a b w) (within_text around a b w) (kind_of a) (kind_of b) ka kb n refl refl refl
      ∙ ap (λ (x : COperand × Writing). asks_helper helper.StrContains type.Bool (x.0 ∷ (given around b (type.Ptr 0) x.1).0 ∷ []) (given around b (type.Ptr 0) x.1).1) X.is ∙ ap (λ (y : COperand × Writing). asks_helper helper.StrContains type.Bool (X.x ∷ y.0 ∷ []) y.1) Y.is

  pub within_strung : IsDone around (row.Compare compared.Within) no_covers (asks_of a ++ (asks_of b ++ Help helper.StrContains ∷ [])) place (a ∷ b ∷ []) w
  unfolding of_some of_two compare
  within_strung = straight_done around (row.Compare compared.Within) (row.Compare compared.Within) helper.StrContains false place a b w flags contains_is TA TB
      (comes compared.Within ∙ ap (λ made. give_made around place type.Bool (opposite_of false made)) within_so ∙ straight_written around place helper.StrContains (X.x ∷ Y.x ∷ []) Y.next flags) refl

  pub outside_strung : IsDone around (row.Compare compared.NotWithin) no_covers (asks_of a ++ (asks_of b ++ Help helper.StrContains ∷ [])) place (a ∷ b ∷ []) w
  unfolding of_some of_two compare
  outside_strung = turned_done around (row.Compare compared.NotWithin) (row.Compare compared.Within) helper.StrContains false place a b w flags contains_is TA TB
      (comes compared.NotWithin ∙ ap (λ made. give_made around place type.Bool (opposite_of true made)) within_so ∙ turned_written around place helper.StrContains (X.x ∷ Y.x ∷ []) Y.next flags)
      (λ program v u world. outside_reversed v u world)

pub less_is_strung : AreTold helper.StrLess (row.Compare compared.Lt)
less_is_strung around place a b w ka kb n flags = less_strung around place a b w ka kb n flags

pub greater_is_strung : AreTold helper.StrLess (row.Compare compared.Gt)
greater_is_strung around place a b w ka kb n flags = greater_strung around place a b w ka kb n flags

pub at_most_is_strung : AreTold helper.StrLess (row.Compare compared.Le)
at_most_is_strung around place a b w ka kb n flags = at_most_strung around place a b w ka kb n flags

pub at_least_is_strung : AreTold helper.StrLess (row.Compare compared.Ge)
at_least_is_strung around place a b w ka kb n flags = at_least_strung around place a b w ka kb n flags

pub equal_is_strung : AreTold helper.StrEqual (row.Compare compared.Eq)
equal_is_strung around place a b w ka kb n flags = equal_strung around place a b w ka kb n flags

pub unequal_is_strung : AreTold helper.StrEqual (row.Compare compared.Ne)
unequal_is_strung around place a b w ka kb n flags = unequal_strung around place a b w ka kb n flags

pub within_is_strung : AreTold helper.StrContains (row.Compare compared.Within)
within_is_strung around place a b w ka kb n flags = within_strung around place a b w ka kb n flags

pub outside_is_strung : AreTold helper.StrContains (row.Compare compared.NotWithin)
outside_is_strung around place a b w ka kb n flags = outside_strung around place a b w ka kb n flags
