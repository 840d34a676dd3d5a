-- Numbers and tuples are tidy.
use Rattle.std.proofs.Common.{◌≡◌, ℕ, ◌+◌, ◌||◌, Bool, true, false, List, [], ◌∷◌, Option, Some, None, refl, pos, negsuc, ℤ}
use Rattle.std.specs.Ordering.{int_eq}
use Rattle.std.specs.Prelude.{if◌then◌else◌, ◌≢◌}
use Rattle.csub_tree.specs.declared.tree.CBinary.{CBinary}
use Rattle.csub_tree.specs.declared.tree.CBinary.TheVariants as binary
use Rattle.csub_tree.specs.declared.tree.CConst.TheVariants as constant
use Rattle.csub_tree.specs.declared.tree.CUnary.{CUnary}
use Rattle.csub_tree.specs.declared.tree.CUnary.TheVariants as unary
use Rattle.csub_tree.specs.declared.tree.COperand.{COperand}
use Rattle.csub_tree.specs.declared.tree.COperand.TheVariants.{Var, Const}
use Rattle.ll_code.specs.declared.program.LlType.{LlType}
use Rattle.ll_code.specs.declared.program.LlType.TheVariants as type
use Rattle.ll_code.specs.declared.program.LlOp.TheVariants as op
use Rattle.ll_build.specs.declared.needs.Helper.TheVariants as helper
use Rattle.rpy_tree.specs.declared.syntax.BinOp.{BinOp}
use Rattle.rpy_tree.specs.declared.syntax.BinOp.TheVariants as bin
use Rattle.rpy_tree.specs.declared.syntax.UnOp.{UnOp}
use Rattle.rpy_tree.specs.declared.syntax.UnOp.TheVariants as un
use Rattle.rtyper_layout.specs.declared.kind.Kind.{Kind}
use Rattle.rtyper_layout.specs.declared.kind.Kind.TheVariants as kind
use Rattle.rtyper_layout.specs.Layout.{is_tuple}
use Rattle.rtyper_data.specs.declared.body.Body.{Body}
use Rattle.rtyper_data.specs.declared.small.Small.TheVariants as small
use Rattle.rtyper_data.specs.Seen.{Operand, type_of, type_at, kind_of, with_op, fresh, Writing, writing, push, set}
use Rattle.rtyper_data.specs.Converting.{by_small, give, give_helped, given}
use Rattle.rtyper_data.specs.Numbers.{binary_by, binary_of, give_binary, give_unary, int_of_text, plain, range_advance, range_has, rises, tested, to_int, to_int_by, unary_of, word}
use Rattle.rtyper_data.specs.Tuples.{field_read, field_type_of, item_by, item_of, parts_from, put_tuple, set_fields, tuple_made, tuple_of, tuple_to, tuple_with, variable_of}
use Rattle.growth_laws.proofs.Growing.{same_found}
use Rattle.reading_laws.specs.Suits.{is_plain, tuple_suits}
use Rattle.reading_laws.specs.Tidy.{AreSet, AreThere, IsSet, IsThere, Setup, Stands, Tidy, Wider, taken, target}
use Rattle.reading_laws.proofs.Steps.{all_more, args_more, as_tidy, held, if_taken, if_tidy, more, nothing, pushed, set_fresh, still, target_set, then_tidy, wider}
use Rattle.reading_laws.proofs.Values.{by_small_tidy, give_helped_tidy, give_made_tidy, give_nothing_tidy, give_op_tidy, give_tidy, given_tidy, typed_tidy}
use Rattle.reading_laws.proofs.Comparisons.{field_of_tidy, two_in, variable_of_tidy}

pub word_set : (z : ℤ) (s : List ℕ) → IsSet (word z) s
word_set z s = held (constant.Word z) s

module _ {f : Setup} (c : Stands f) where
  -- ---- words

  pub give_unary_tidy : {s : List ℕ} (o : CUnary) (gives : LlType) (x : COperand) (w : Writing) → gives ≢ type.Void → IsSet x s → Tidy f s (taken true f) w (give_unary f.world.around f.place o gives x w)
  unfolding give_unary
  give_unary_tidy o gives x w there h = give_op_tidy c gives (λ v. op.Unary v o x) w there (λ v. h.it) (λ v. refl) (λ v j. (refl, j))

  pub give_binary_tidy : {s : List ℕ} (o : CBinary) (gives : LlType) (x y : COperand) (w : Writing) → gives ≢ type.Void → IsSet x s → IsSet y s → Tidy f s (taken true f) w (give_binary f.world.around f.place o gives x y w)
  unfolding give_binary
  give_binary_tidy {s} o gives x y w there h k = give_op_tidy c gives (λ v. op.Binary v o x y) w there (λ v. two_in x y s h k) (λ v. refl) (λ v j. (refl, j))

  pub unary_of_tidy : {s : List ℕ} (o : UnOp) (a : Operand) (w : Writing) → IsSet a.x s → Tidy f s (taken true f) w (unary_of f.world.around f.place o a w)
  unfolding unary_of
  unary_of_tidy un.Neg a w h = give_unary_tidy unary.Neg type.Signed a.x w (λ e. absurd (cc)) h
  unary_of_tidy un.Pos a w h = give_tidy c a.x type.Signed w h
  unary_of_tidy un.Invert a w h = give_unary_tidy unary.Inv type.Signed a.x w (λ e. absurd (cc)) h

  tested_gives : (o : BinOp) → {s : List ℕ} (x y : COperand) (w : Writing) → IsSet x s → IsSet y s → Tidy f s (taken true f) w (binary_by f.world.around f.place o None x y w)
  tested_gives bin.Mod x y w h k = give_helped_tidy c helper.WordMod type.Signed (x ∷ y ∷ []) w refl (λ e. absurd (cc)) (h, (k, tt))
  tested_gives bin.Shl x y w h k = give_helped_tidy c helper.WordShl type.Signed (x ∷ y ∷ []) w refl (λ e. absurd (cc)) (h, (k, tt))
  tested_gives bin.Shr x y w h k = give_helped_tidy c helper.WordShr type.Signed (x ∷ y ∷ []) w refl (λ e. absurd (cc)) (h, (k, tt))
  tested_gives o x y w h k = give_helped_tidy c helper.WordDiv type.Signed (x ∷ y ∷ []) w refl (λ e. absurd (cc)) (h, (k, tt))

  binary_by_tidy : {s : List ℕ} (o : BinOp) (b : Option CBinary) (x y : COperand) (w : Writing) → IsSet x s → IsSet y s → Tidy f s (taken true f) w (binary_by f.world.around f.place o b x y w)
  binary_by_tidy o (Some b) x y w h k = give_binary_tidy b type.Signed x y w (λ e. absurd (cc)) h k
  binary_by_tidy o None x y w h k = tested_gives o x y w h k

  pub binary_of_tidy : {s : List ℕ} (o : BinOp) (x y : COperand) (w : Writing) → IsSet x s → IsSet y s → Tidy f s (taken true f) w (binary_of f.world.around f.place o x y w)
  unfolding binary_of
  binary_of_tidy o x y w h k = binary_by_tidy o (plain o) x y w h k

  int_of_text_tidy : {s : List ℕ} (made : COperand × Writing) (w : Writing) → Tidy f s (made.0 ∷ []) w made.1 → Tidy f s (taken true f) w (int_of_text f.world.around f.place made)
  int_of_text_tidy made w one = then_tidy one (λ t m k. give_made_tidy c type.Signed made.1 (by_small small.IntOfText type.Signed (made.0 ∷ []) made.1) (by_small_tidy c small.IntOfText type.Signed (made.0 ∷ []) made.1 tt k))

  to_int_by_tidy : {s : List ℕ} (k : Kind) (a : Operand) (w : Writing) → IsSet a.x s → Tidy f s (taken (is_plain k) f) w (to_int_by k f.world.around f.place a w)
  to_int_by_tidy kind.Word a w h = give_tidy c a.x type.Signed w h
  to_int_by_tidy kind.Flag a w h = give_unary_tidy unary.B2S type.Signed a.x w (λ e. absurd (cc)) h
  to_int_by_tidy kind.Byte a w h = int_of_text_tidy (given f.world.around a (type.Ptr 0) w) w (given_tidy c a (type.Ptr 0) w h)
  to_int_by_tidy kind.Text a w h = int_of_text_tidy (given f.world.around a (type.Ptr 0) w) w (given_tidy c a (type.Ptr 0) w h)
  to_int_by_tidy k a w h = nothing

  pub to_int_tidy : {s : List ℕ} (a : Operand) (w : Writing) → IsSet a.x s → Tidy f s (taken (is_plain (kind_of a)) f) w (to_int f.world.around f.place a w)
  unfolding to_int
  to_int_tidy a w h = to_int_by_tidy (kind_of a) a w h

  -- ---- ranges

  pub range_has_tidy : {s : List ℕ} (step : ℤ) (end next : COperand) (w : Writing) → IsSet end s → IsSet next s → Tidy f s (taken true f) w (range_has f.world.around f.place step end next w)
  unfolding range_has
  range_has_tidy step end next w h k = give_binary_tidy (if rises step then binary.Gt else binary.Lt) type.Bool end next w (λ e. absurd (cc)) h k

  moves : {s : List ℕ} (b : Bool) (xs : List COperand) (w : Writing) → AreSet xs s → Tidy f s (taken true f) w (give_helped f.world.around f.place (if b then helper.RangeUp else helper.RangeDown) type.Signed xs w)
  moves true xs w k = give_helped_tidy c helper.RangeUp type.Signed xs w refl (λ e. absurd (cc)) k
  moves false xs w k = give_helped_tidy c helper.RangeDown type.Signed xs w refl (λ e. absurd (cc)) k

  pub range_advance_tidy : {s : List ℕ} (step : ℤ) (end next : COperand) (w : Writing) → IsSet end s → IsSet next s → Tidy f s (taken true f) w (range_advance f.world.around f.place step end next w)
  unfolding range_advance
  range_advance_tidy {s} step end next w h k =
      if_tidy (int_eq step (pos 1) || int_eq step (negsuc 0)) _ _ (give_binary_tidy binary.Add type.Signed next (word step) w (λ e. absurd (cc)) k (word_set step s))
      (moves (rises step) (end ∷ next ∷ word step ∷ []) w (h, (k, (word_set step s, tt))))

  -- a step that is paid
  pub paid_tidy : {s : List ℕ} (x : COperand) (w : Writing) → IsSet x s → Tidy f s [] w (push (op.Step x) w)
  paid_tidy x w h = pushed [] (op.Step x) w.found w h.it tt (same_found w.found) (λ a i. (refl, tt))

  -- ---- tuples

  parts_from_tidy : {s : List ℕ} (n i : ℕ) (args : List Operand) (w : Writing) → AreThere f args s → Tidy f s (parts_from f.world.around n i args w).0 w (parts_from f.world.around n i args w).1
  parts_from_tidy n i [] w h = nothing
  parts_from_tidy n i (a ∷ args) w h =
      then_tidy (given_tidy c a (field_type_of f.world.around n i) w h.0.inside) (λ t m k.
      as_tidy _ (parts_from_tidy n (i + 1) args (given f.world.around a (field_type_of f.world.around n i) w).1 (args_more f args m h.1)) (λ u r j. (more r k.0, j)))

  set_fields_tidy : {s : List ℕ} (n tuple i : ℕ) (xs : List COperand) (w : Writing) → IsSet (Var tuple) s → AreSet xs s → Tidy f s [] w (writing w.found (set_fields n tuple i xs w.body))
  set_fields_tidy n tuple i [] w h k = nothing
  set_fields_tidy {s} n tuple i (x ∷ xs) w h k =
      then_tidy (pushed [] (op.SetField n tuple i x) w.found w (two_in (Var tuple) x s h k.0) tt (same_found w.found) (λ a j. (refl, tt)))
      (λ t m q. set_fields_tidy n tuple (i + 1) xs (writing w.found (with_op (op.SetField n tuple i x) w.body)) (more m h) (all_more xs m k.1))

  tuple_with_tidy : {s : List ℕ} (n : ℕ) (parts : List COperand × Writing) → AreSet parts.0 s → Tidy f s (Var (tuple_with n parts).0 ∷ []) parts.1 (tuple_with n parts).1
  tuple_with_tidy n parts h =
      then_tidy (set_fresh (type.Ptr n) (λ v. op.New v n n) parts.1.found parts.1 (λ v x e. absurd (cc)) (λ v. refl) (same_found parts.1.found) (λ a i v j. (refl, j))) (λ t m k.
      as_tidy _ (set_fields_tidy n (fresh (type.Ptr n) parts.1.body).0 0 parts.0 (writing parts.1.found (with_op (op.New (fresh (type.Ptr n) parts.1.body).0 n n) (fresh (type.Ptr n) parts.1.body).1)) k.0 (all_more parts.0 m h)) (λ u r j. (more r k.0, tt)))

  tuple_made_tidy : {s : List ℕ} (n : ℕ) (args : List Operand) (w : Writing) → AreThere f args s → Tidy f s (Var (tuple_made f.world.around n args w).0 ∷ []) w (tuple_made f.world.around n args w).1
  unfolding tuple_made
  tuple_made_tidy n args w h = then_tidy (parts_from_tidy n 0 args w h) (λ t m k. tuple_with_tidy n (parts_from f.world.around n 0 args w) k)

  -- a place of this type
  tuple_to_tidy : {s : List ℕ} (args : List Operand) (t : LlType) (w : Writing) → type_at f.world.around f.place ≡ t → AreThere f args s → Tidy f s (taken (tuple_suits f.world.around.layout t) f) w (tuple_to f.world.around f.place args t w)
  tuple_to_tidy {s} args (type.Ptr n) w is h = on (is_tuple f.world.around.layout n)
    where
      made : Tidy f s (taken true f) w (put_tuple f.place (tuple_made f.world.around n args w))
      made = then_tidy (tuple_made_tidy n args w h) (λ u m k. typed_tidy c (Var (tuple_made f.world.around n args w).0) (type.Ptr n) (tuple_made f.world.around n args w).1 (λ e. absurd (cc)) is k.0)

      on : (b : Bool) → Tidy f s (taken b f) w (if b then put_tuple f.place (tuple_made f.world.around n args w) else w)
      on true = made
      on false = nothing
  tuple_to_tidy args t w is h = give_nothing_tidy c w

  pub tuple_of_tidy : {s : List ℕ} (args : List Operand) (w : Writing) → AreThere f args s → Tidy f s (taken (tuple_suits f.world.around.layout (type_at f.world.around f.place)) f) w (tuple_of f.world.around f.place args w)
  tuple_of_tidy {s} args w h = then_tidy (paid_tidy (Const (constant.Word (pos 1))) w (held (constant.Word (pos 1)) s)) (λ t m k. tuple_to_tidy args (type_at f.world.around f.place) (push (op.Step (Const (constant.Word (pos 1)))) w) refl (args_more f args m h))

  -- ---- items

  read_field : {s : List ℕ} (n i : ℕ) (t : LlType) (tuple : ℕ) (w : Writing) → IsSet (Var tuple) s → Tidy f s (taken true f) w (give f.world.around f.place (Var (fresh t w.body).0) t (writing w.found (with_op (op.GetField (fresh t w.body).0 n tuple i) (fresh t w.body).1)))
  read_field n i t tuple w h = then_tidy (field_of_tidy n tuple i t w h) (λ u m k. give_tidy c (Var (fresh t w.body).0) t (writing w.found (with_op (op.GetField (fresh t w.body).0 n tuple i) (fresh t w.body).1)) k.0)

  field_read_tidy : {s : List ℕ} (n i : ℕ) (t : LlType) (tuple : ℕ) (w : Writing) → IsSet (Var tuple) s → Tidy f s (taken true f) w (field_read f.world.around f.place n i t (tuple, w.body) w)
  field_read_tidy n i type.Void tuple w h = give_nothing_tidy c w
  field_read_tidy n i type.Signed tuple w h = read_field n i type.Signed tuple w h
  field_read_tidy n i type.Char tuple w h = read_field n i type.Char tuple w h
  field_read_tidy n i type.Bool tuple w h = read_field n i type.Bool tuple w h
  field_read_tidy n i type.Fn tuple w h = read_field n i type.Fn tuple w h
  field_read_tidy n i (type.Ptr k) tuple w h = read_field n i (type.Ptr k) tuple w h

  -- behind the variable of the tuple
  field_behind : {s : List ℕ} (n i : ℕ) (t : LlType) (v : ℕ × Body) (w : Writing) → Tidy f s (Var v.0 ∷ []) w (writing w.found v.1) → Tidy f s (taken true f) w (field_read f.world.around f.place n i t v w)
  field_behind n i t v w one = then_tidy one (λ u m k. same_field n i t v w (field_read_tidy n i t v.0 (writing w.found v.1) k.0))
    where
      same_field : {s : List ℕ} (n i : ℕ) (t : LlType) (v : ℕ × Body) (w : Writing) → Tidy f s (taken true f) (writing w.found v.1) (field_read f.world.around f.place n i t (v.0, v.1) (writing w.found v.1)) → Tidy f s (taken true f) (writing w.found v.1) (field_read f.world.around f.place n i t v w)
      same_field n i type.Void v w it = it
      same_field n i type.Signed v w it = it
      same_field n i type.Char v w it = it
      same_field n i type.Bool v w it = it
      same_field n i type.Fn v w it = it
      same_field n i (type.Ptr k) v w it = it

  item_by_tidy : {s : List ℕ} (a : Operand) (i : ℕ) (t : LlType) (w : Writing) → IsSet a.x s → Tidy f s (taken true f) w (item_by f.world.around f.place a i t w)
  item_by_tidy a i (type.Ptr n) w h = field_behind n i (field_type_of f.world.around n i) (variable_of a.x (type.Ptr n) w.body) w (variable_of_tidy a.x (type.Ptr n) w h)
  item_by_tidy a i t w h = give_nothing_tidy c w

  pub item_of_tidy : {s : List ℕ} (a : Operand) (i : ℕ) (w : Writing) → IsSet a.x s → Tidy f s (taken true f) w (item_of f.world.around f.place a i w)
  item_of_tidy a i w h = item_by_tidy a i (type_of f.world.around a) w h
