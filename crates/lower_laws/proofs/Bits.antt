-- Operations on the bits of words.
use Rattle.std.proofs.Common.{◌≡◌, ℕ, ◌-◌, [], ◌∷◌, Option, Ok, ℤ, pos, negsuc, ◌-ℤ◌, neg_ℤ, refl, sym, ap, ◌∙◌, arith}
use Rattle.std.specs.Int.{w64, cast_signed, cast_unsigned, int_bit_and, int_bit_or, int_bit_xor, int_bit_not, bit_not}
use Rattle.std.proofs.lemmas.Int.{ints, int_wrap_fits, SFits-int_wrap, to_z-of_z}
use Rattle.rpy_base.specs.Word.{Fits, wrap}
use Rattle.csub_tree.specs.State.{Word}
use Rattle.csub_tree.specs.declared.tree.CBinary.TheVariants as binary
use Rattle.csub_tree.specs.declared.tree.CUnary.TheVariants as unary
use Rattle.rpy_tree.specs.declared.syntax.BinOp.TheVariants as bin
use Rattle.rpy_tree.specs.declared.syntax.UnOp.TheVariants as un
use Rattle.rpy_tree.specs.Value.{Word as MeantWord}
use Rattle.rpy_meaning.specs.declared.row.RowOp.TheVariants as row
use Rattle.rpy_meaning.specs.World.{Gives}
use Rattle.ll_code.specs.declared.program.LlType.TheVariants as type
use Rattle.ll_code.specs.declared.program.LlOp.TheVariants as op
use Rattle.rtyper_layout.specs.declared.kind.Kind.TheVariants as kind
use Rattle.rtyper_op.specs.Lowering.{lowered, of_some, of_one, of_two, binary_to, if_words, conversion, conversion_by}
use Rattle.rtyper_data.specs.Numbers.{give_binary, give_unary, binary_of as lowered_binary, unary_of as lowered_unary}
use Rattle.rtyper_data.specs.Seen.{Around, Operand, Place, type_at, kind_of, with_op, Writing, writing}
use Rattle.lower_laws.specs.Follows.{IsWord, OnWord, OnWords}
use Rattle.lower_laws.proofs.Doing.{sets_place}
use Rattle.lower_laws.proofs.Single.{turned, gives_word, word_stays}
use Rattle.lower_laws.proofs.Words.{two_words}

-- bits that are read are a word
read_fits : (n : ℕ) → Fits (cast_signed w64 n)
read_fits n = omega (arith, ints)

-- so the operation gives what stays as it is where it is wrapped
same_bits : (n : ℕ) → cast_signed w64 n ≡ wrap (cast_signed w64 n)
same_bits n = sym (int_wrap_fits w64 (cast_signed w64 n) (read_fits n))

pub bit_and_is_followed : (site : Option ℕ) → OnWords (row.Binary bin.BitAnd site) type.Signed
unfolding of_some of_two binary_to lowered_binary give_binary
bit_and_is_followed site = two_words (record { result = λ a b. wrap (int_bit_and w64 a b); low = λ a b fa fb. ap (λ z. Ok (Word z)) (same_bits _); high = λ program covers a b w. refl; fits = λ a b fa fb. SFits-int_wrap w64 (int_bit_and w64 a b) }) l
  where
    l : (around : Around) (place : Place) (a b : Operand) (w : Writing) → IsWord around a → IsWord around b → type_at around place ≡ type.Signed → lowered around place (row.Binary bin.BitAnd site) (a ∷ b ∷ []) w ≡ writing w.found (with_op (op.Binary place.variable binary.And a.x b.x) w.body)
    l around place a b w ha hb ht = ap (λ k. if_words k (kind_of b) (lowered_binary around place bin.BitAnd a.x b.x w) w) ha.kind ∙ ap (λ k. if_words kind.Word k (lowered_binary around place bin.BitAnd a.x b.x w) w) hb.kind
        ∙ sets_place around place type.Signed (λ v. op.Binary v binary.And a.x b.x) w ht

pub bit_or_is_followed : (site : Option ℕ) → OnWords (row.Binary bin.BitOr site) type.Signed
unfolding of_some of_two binary_to lowered_binary give_binary
bit_or_is_followed site = two_words (record { result = λ a b. wrap (int_bit_or w64 a b); low = λ a b fa fb. ap (λ z. Ok (Word z)) (same_bits _); high = λ program covers a b w. refl; fits = λ a b fa fb. SFits-int_wrap w64 (int_bit_or w64 a b) }) l
  where
    l : (around : Around) (place : Place) (a b : Operand) (w : Writing) → IsWord around a → IsWord around b → type_at around place ≡ type.Signed → lowered around place (row.Binary bin.BitOr site) (a ∷ b ∷ []) w ≡ writing w.found (with_op (op.Binary place.variable binary.Or a.x b.x) w.body)
    l around place a b w ha hb ht = ap (λ k. if_words k (kind_of b) (lowered_binary around place bin.BitOr a.x b.x w) w) ha.kind ∙ ap (λ k. if_words kind.Word k (lowered_binary around place bin.BitOr a.x b.x w) w) hb.kind
        ∙ sets_place around place type.Signed (λ v. op.Binary v binary.Or a.x b.x) w ht

pub bit_xor_is_followed : (site : Option ℕ) → OnWords (row.Binary bin.BitXor site) type.Signed
unfolding of_some of_two binary_to lowered_binary give_binary
bit_xor_is_followed site = two_words (record { result = λ a b. wrap (int_bit_xor w64 a b); low = λ a b fa fb. ap (λ z. Ok (Word z)) (same_bits _); high = λ program covers a b w. refl; fits = λ a b fa fb. SFits-int_wrap w64 (int_bit_xor w64 a b) }) l
  where
    l : (around : Around) (place : Place) (a b : Operand) (w : Writing) → IsWord around a → IsWord around b → type_at around place ≡ type.Signed → lowered around place (row.Binary bin.BitXor site) (a ∷ b ∷ []) w ≡ writing w.found (with_op (op.Binary place.variable binary.Xor a.x b.x) w.body)
    l around place a b w ha hb ht = ap (λ k. if_words k (kind_of b) (lowered_binary around place bin.BitXor a.x b.x w) w) ha.kind ∙ ap (λ k. if_words kind.Word k (lowered_binary around place bin.BitXor a.x b.x w) w) hb.kind
        ∙ sets_place around place type.Signed (λ v. op.Binary v binary.Xor a.x b.x) w ht

-- ---- all bits turned

-- the number whose bits they are
abbrev flipped : ℤ → ℤ
flipped (pos n) = negsuc n
flipped (negsuc n) = pos n

flipped_fits : (a : ℤ) → Fits a → Fits (flipped a)
flipped_fits (pos n) f = omega (arith, ints)
flipped_fits (negsuc n) f = omega (arith, ints)

flipped_bits : (a : ℤ) → Fits a → bit_not w64 (cast_unsigned w64 a) ≡ cast_unsigned w64 (flipped a)
flipped_bits (pos n) f = omega arith
flipped_bits (negsuc n) f = omega (arith, ints)

-- one less than the opposite
flipped_is : (a : ℤ) → flipped a ≡ neg_ℤ a -ℤ pos 1
flipped_is (pos n) = omega (arith, ints)
flipped_is (negsuc n) = omega (arith, ints)

turned_is : (a : ℤ) → Fits a → int_bit_not w64 a ≡ neg_ℤ a -ℤ pos 1
turned_is a f = ap (cast_signed w64) (flipped_bits a f) ∙ (to_z-of_z w64 (flipped a) (flipped_fits a f) ∙ flipped_is a)

opposite_fits : (a : ℤ) → Fits a → Fits (neg_ℤ a -ℤ pos 1)
opposite_fits a f = omega (arith, ints)

pub bit_not_is_followed : OnWord (row.Unary un.Invert) type.Signed
unfolding of_some of_one conversion lowered_unary give_unary
bit_not_is_followed = turned {o = row.Unary un.Invert} unary.Inv (λ a. neg_ℤ a -ℤ pos 1) (λ a f. ap (λ z. Ok (Word z)) (turned_is a f ∙ sym (int_wrap_fits w64 (neg_ℤ a -ℤ pos 1) (opposite_fits a f)))) (λ program covers a w. refl) l
  where
    l : (around : Around) (place : Place) (a : Operand) (w : Writing) → IsWord around a → type_at around place ≡ type.Signed → lowered around place (row.Unary un.Invert) (a ∷ []) w ≡ writing w.found (with_op (op.Unary place.variable unary.Inv a.x) w.body)
    l around place a w ha ht = ap (λ k. conversion_by (row.Unary un.Invert) k around place a w) ha.kind ∙ sets_place around place type.Signed (λ v. op.Unary v unary.Inv a.x) w ht

-- `+a`
pub plus_is_followed : OnWord (row.Unary un.Pos) type.Signed
unfolding of_some of_one conversion lowered_unary
plus_is_followed = word_stays {o = row.Unary un.Pos} (λ program covers a w f. ap (λ z. Gives (MeantWord z) w) (int_wrap_fits w64 a f)) l
  where
    l : (around : Around) (place : Place) (a : Operand) (w : Writing) → IsWord around a → type_at around place ≡ type.Signed → lowered around place (row.Unary un.Pos) (a ∷ []) w ≡ writing w.found (with_op (op.Set place.variable a.x) w.body)
    l around place a w ha ht = ap (λ k. conversion_by (row.Unary un.Pos) k around place a w) ha.kind ∙ gives_word around place a.x w ht
