-- Truth, printing and strings are tidy.
use Rattle.std.proofs.Common.{◌≡◌, ℕ, ◌+◌, ◌&&◌, ◌||◌, Bool, true, false, List, [], ◌∷◌, Option, Some, None, refl, pos}
use Rattle.std.specs.Prelude.{if◌then◌else◌, not, codes, ◌≢◌}
use Rattle.std.specs.Str.{bytes_eq}
use Rattle.csub_tree.specs.declared.tree.CBinary.TheVariants as binary
use Rattle.csub_tree.specs.declared.tree.CConst.TheVariants as constant
use Rattle.csub_tree.specs.declared.tree.CUnary.TheVariants as unary
use Rattle.csub_tree.specs.declared.tree.COperand.{COperand}
use Rattle.csub_tree.specs.declared.tree.COperand.TheVariants.{Var, Const}
use Rattle.ll_code.specs.declared.program.LlType.{LlType}
use Rattle.ll_code.specs.declared.program.LlType.TheVariants as type
use Rattle.ll_code.specs.declared.program.LlOp.TheVariants as op
use Rattle.ll_build.specs.declared.needs.Helper.{Helper}
use Rattle.ll_build.specs.declared.needs.Helper.TheVariants as helper
use Rattle.ll_live.specs.Live.{variables_in}
use Rattle.rtyper_layout.specs.declared.kind.Kind.{Kind}
use Rattle.rtyper_layout.specs.declared.kind.Kind.TheVariants as kind
use Rattle.rtyper_layout.specs.Kinds.{is_text, is_text_or_none}
use Rattle.rtyper_data.specs.declared.body.Body.{Body}
use Rattle.rtyper_data.specs.declared.small.Small.TheVariants as small
use Rattle.rtyper_data.specs.declared.small.Listed.TheVariants as listed
use Rattle.rtyper_data.specs.declared.small.Keyed.TheVariants as keyed
use Rattle.rtyper_data.specs.Comparing.{binary_in, flag, is_no_function, is_null, opposite_if}
use Rattle.rtyper_data.specs.Converting.{by_small, give_helped, give_nothing, given, helped}
use Rattle.rtyper_data.specs.Finding.{helper_number}
use Rattle.rtyper_data.specs.Numbers.{word}
use Rattle.rtyper_data.specs.Seen.{Operand, fresh, kind_of, operand_at, push, type_of, with_op, Writing, writing}
use Rattle.rtyper_op.specs.declared.text.Test.{Test}
use Rattle.rtyper_op.specs.declared.text.Test.TheVariants.{Known, By}
use Rattle.rtyper_op.specs.Texts.{byte_method_by, called_by, dict_truth, list_truth, lower, method, method_of_one, of_byte, of_text, of_text_and_word, of_texts, print, printed_by, put, put_all, put_by, put_more, slice, strip, strip_unless, tested_to, text_method_by, text_type, to_str, to_str_by, truth_by, truth_of, truth_to, upper, write}
use Rattle.rtyper_op.specs.Texts.{of_two as two_of, byte_method}
use Rattle.growth_laws.proofs.Growing.{helpers_grow, same_found}
use Rattle.reading_laws.specs.Results.{helper_gives}
use Rattle.reading_laws.specs.Suits.{byte_suits, is_plain, method_suits, strip_suits, text_suits}
use Rattle.reading_laws.specs.Tidy.{AreSet, AreThere, IsSet, IsThere, Setup, Stands, Tidy, Wider, taken}
use Rattle.reading_laws.proofs.Steps.{AreGiven, all_given, args_more, as_tidy, held, if_sets, if_taken, if_tidy, more, nothing, operand_set, pushed, sets_in, still, takes_none, then_tidy}
use Rattle.reading_laws.proofs.Values.{by_small_tidy, give_helped_tidy, give_nothing_tidy, give_tidy, given_tidy, helped_tidy}
use Rattle.reading_laws.proofs.Comparisons.{binary_in_tidy, is_no_function_tidy, is_null_tidy, opposite_if_tidy, unary_in_tidy}
use Rattle.reading_laws.proofs.Writers.{give_unary_tidy, word_set}

-- what a test reads
abbrev pub read_by : Test → List COperand
read_by (Known b) = []
read_by (By x) = x ∷ []

module _ {f : Setup} (c : Stands f) where
  -- ---- truth

  list_truth_tidy : {s : List ℕ} (t : LlType) (x : COperand) (w : Writing) → IsSet x s → Tidy f s (read_by (list_truth t x w).0) w (list_truth t x w).1
  list_truth_tidy (type.Ptr n) x w h = by_small_tidy c (small.Listed (listed.Truth n)) type.Bool (x ∷ []) w tt (h, tt)
  list_truth_tidy t x w h = nothing

  dict_truth_tidy : {s : List ℕ} (t : LlType) (x : COperand) (w : Writing) → IsSet x s → Tidy f s (read_by (dict_truth t x w).0) w (dict_truth t x w).1
  dict_truth_tidy (type.Ptr n) x w h = by_small_tidy c (small.Keyed (keyed.Truth n)) type.Bool (x ∷ []) w tt (h, tt)
  dict_truth_tidy t x w h = nothing

  is_there_tidy : {s : List ℕ} (null : COperand × Body) (w : Writing) → Tidy f s (null.0 ∷ []) w (writing w.found null.1) → Tidy f s ((opposite_if true null.0 null.1).0 ∷ []) w (writing w.found (opposite_if true null.0 null.1).1)
  is_there_tidy null w one = then_tidy one (λ t m k. opposite_if_tidy true null.0 (writing w.found null.1) k.0)

  truth_by_tidy : {s : List ℕ} (k : Kind) (a : Operand) (w : Writing) → IsSet a.x s → Tidy f s (read_by (truth_by k f.world.around a w).0) w (truth_by k f.world.around a w).1
  truth_by_tidy {s} kind.Word a w h = binary_in_tidy binary.Ne type.Bool a.x (word (pos 0)) w h (word_set (pos 0) s)
  truth_by_tidy kind.Flag a w h = still (a.x ∷ []) (h, tt)
  truth_by_tidy kind.Nothing a w h = nothing
  truth_by_tidy kind.Text a w h = helped_tidy c helper.StrTruth type.Bool (a.x ∷ []) w refl (h, tt)
  truth_by_tidy kind.MaybeText a w h = helped_tidy c helper.StrTruth type.Bool (a.x ∷ []) w refl (h, tt)
  truth_by_tidy kind.MaybeInstance a w h = is_there_tidy (is_null a.x w.body) w (is_null_tidy a.x w h)
  truth_by_tidy kind.MaybeFunction a w h = is_there_tidy (is_no_function a.x w.body) w (is_no_function_tidy a.x w h)
  truth_by_tidy kind.List a w h = list_truth_tidy (type_of f.world.around a) a.x w h
  truth_by_tidy kind.MaybeList a w h = list_truth_tidy (type_of f.world.around a) a.x w h
  truth_by_tidy kind.Dict a w h = dict_truth_tidy (type_of f.world.around a) a.x w h
  truth_by_tidy kind.MaybeDict a w h = dict_truth_tidy (type_of f.world.around a) a.x w h
  truth_by_tidy k a w h = nothing

  pub truth_of_tidy : {s : List ℕ} (a : Operand) (w : Writing) → IsSet a.x s → Tidy f s (read_by (truth_of f.world.around a w).0) w (truth_of f.world.around a w).1
  unfolding truth_of
  truth_of_tidy a w h = truth_by_tidy (kind_of a) a w h

  tested_to_tidy : {s : List ℕ} (reversed : Bool) (t : Test) (w : Writing) → AreSet (read_by t) s → Tidy f s (taken true f) w (tested_to f.world.around f.place reversed t w)
  tested_to_tidy {s} reversed (Known b) w h = give_tidy c (flag (if reversed then not b else b)) type.Bool w (held (constant.Bool (if reversed then not b else b)) s)
  tested_to_tidy reversed (By x) w h = if_tidy reversed _ _ (give_unary_tidy c unary.Not type.Bool x w (λ e. absurd (cc)) h.0) (give_tidy c x type.Bool w h.0)

  pub truth_to_tidy : {s : List ℕ} (a : Operand) (reversed : Bool) (w : Writing) → IsSet a.x s → Tidy f s (taken true f) w (truth_to f.world.around f.place a reversed w)
  truth_to_tidy a reversed w h = then_tidy (truth_of_tidy a w h) (λ t m k. tested_to_tidy reversed (truth_of f.world.around a w).0 (truth_of f.world.around a w).1 k)

  -- ---- printing

  printed_by_tidy : {s : List ℕ} (h : Helper) (x : COperand) (w : Writing) → IsSet x s → Tidy f s [] w (printed_by h x w)
  printed_by_tidy {s} h x w k = pushed [] (op.Call None (helper_number h w.found).0 (x ∷ [])) (helper_number h w.found).1 w (sets_in (x ∷ []) s (k, tt)) tt (helpers_grow h w.found) (λ a i. takes_none f.program f.size _)

  put_byte : {s : List ℕ} (x : COperand) (w : Writing) → IsSet x s → Tidy f s [] w (put_by kind.Byte x w)
  put_byte x w h = then_tidy (unary_in_tidy unary.C2S type.Signed x w h) (λ t m k. pushed [] (op.Put (Var (fresh type.Signed w.body).0)) w.found _ k.0.it tt (same_found w.found) (λ a i. (refl, tt)))

  put_by_tidy : {s : List ℕ} (k : Kind) (x : COperand) (w : Writing) → IsSet x s → Tidy f s [] w (put_by k x w)
  put_by_tidy kind.Word x w h = printed_by_tidy helper.PrintWord x w h
  put_by_tidy kind.Flag x w h = printed_by_tidy helper.PrintBool x w h
  put_by_tidy kind.Byte x w h = put_byte x w h
  put_by_tidy kind.Text x w h = printed_by_tidy helper.PrintStr x w h
  put_by_tidy k x w h = nothing

  put_tidy : {s : List ℕ} (a : Operand) (w : Writing) → IsSet a.x s → Tidy f s [] w (put a w)
  unfolding put
  put_tidy a w h = put_by_tidy (kind_of a) a.x w h

  put_constant : {s : List ℕ} (n : ℕ) (w : Writing) → Tidy f s [] w (push (op.Put (word (pos n))) w)
  put_constant {s} n w = pushed [] (op.Put (word (pos n))) w.found w (word_set (pos n) s).it tt (same_found w.found) (λ a i. (refl, tt))

  put_more_tidy : {s : List ℕ} (args : List Operand) (w : Writing) → AreThere f args s → Tidy f s [] w (put_more args w)
  put_more_tidy [] w h = nothing
  put_more_tidy (a ∷ args) w h =
      then_tidy (put_constant 32 w) (λ t m k.
      then_tidy (put_tidy a (push (op.Put (word (pos 32))) w) (more m h.0.inside)) (λ u n j.
      put_more_tidy args (put a (push (op.Put (word (pos 32))) w)) (args_more f args n (args_more f args m h.1))))

  put_all_tidy : {s : List ℕ} (args : List Operand) (w : Writing) → AreThere f args s → Tidy f s [] w (put_all args w)
  put_all_tidy [] w h = nothing
  put_all_tidy (a ∷ args) w h = then_tidy (put_tidy a w h.0.inside) (λ t m k. put_more_tidy args (put a w) (args_more f args m h.1))

  pub print_tidy : {s : List ℕ} (args : List Operand) (w : Writing) → AreThere f args s → Tidy f s [] w (print args w)
  print_tidy args w h = then_tidy (put_all_tidy args w h) (λ t m k. put_constant 10 (put_all args w))

  -- ---- strings

  to_str_by_tidy : {s : List ℕ} (k : Kind) (a : Operand) (w : Writing) → IsSet a.x s → Tidy f s (taken (is_plain k) f) w (to_str_by k f.world.around f.place a w)
  to_str_by_tidy kind.Word a w h = give_helped_tidy c helper.StrOfWord text_type (a.x ∷ []) w refl (λ e. absurd (cc)) (h, tt)
  to_str_by_tidy kind.Flag a w h = give_helped_tidy c helper.StrOfBool text_type (a.x ∷ []) w refl (λ e. absurd (cc)) (h, tt)
  to_str_by_tidy kind.Byte a w h = give_tidy c a.x type.Char w h
  to_str_by_tidy kind.Text a w h = give_tidy c a.x text_type w h
  to_str_by_tidy k a w h = nothing

  pub to_str_tidy : {s : List ℕ} (a : Operand) (w : Writing) → IsSet a.x s → Tidy f s (taken (is_plain (kind_of a)) f) w (to_str f.world.around f.place a w)
  unfolding to_str
  to_str_tidy a w h = to_str_by_tidy (kind_of a) a w h

  pub of_text_tidy : {s : List ℕ} (h : Helper) (gives : LlType) (a : Operand) (w : Writing) → helper_gives h ≡ true → gives ≢ type.Void → IsSet a.x s → Tidy f s (taken true f) w (of_text f.world.around f.place h gives a w)
  unfolding of_text
  of_text_tidy h gives a w g there k = then_tidy (given_tidy c a text_type w k) (λ t m j. give_helped_tidy c h gives _ _ g there j)

  pub of_texts_tidy : {s : List ℕ} (h : Helper) (gives : LlType) (a b : Operand) (w : Writing) → helper_gives h ≡ true → gives ≢ type.Void → IsSet a.x s → IsSet b.x s → Tidy f s (taken true f) w (of_texts f.world.around f.place h gives a b w)
  unfolding of_texts
  of_texts_tidy h gives a b w g there k l =
      then_tidy (given_tidy c a text_type w k) (λ t m j.
      then_tidy (given_tidy c b text_type (given f.world.around a text_type w).1 (more m l)) (λ u n i.
      give_helped_tidy c h gives _ _ g there (more n j.0, (i.0, tt))))

  pub of_text_and_word_tidy : {s : List ℕ} (h : Helper) (gives : LlType) (a b : Operand) (w : Writing) → helper_gives h ≡ true → gives ≢ type.Void → IsSet a.x s → IsSet b.x s → Tidy f s (taken true f) w (of_text_and_word f.world.around f.place h gives a b w)
  unfolding of_text_and_word
  of_text_and_word_tidy h gives a b w g there k l = then_tidy (given_tidy c a text_type w k) (λ t m j. give_helped_tidy c h gives _ _ g there (j.0, (more m l, tt)))

  -- ---- slices

  lower_set : (s : List ℕ) (low : Bool) (args : List Operand) → AreGiven args s → IsSet (lower low args) s
  lower_set s true args h = operand_set s args 1 h
  lower_set s false args h = word_set (pos 0) s

  upper_set : (s : List ℕ) (low high : Bool) (args : List Operand) → AreGiven args s → IsSet (upper low high args) s
  upper_set s low false args h = word_set (pos 9223372036854775807) s
  upper_set s false true args h = operand_set s args 1 h
  upper_set s true true args h = operand_set s args 2 h

  pub slice_tidy : {s : List ℕ} (low high : Bool) (args : List Operand) (w : Writing) → AreThere f args s → Tidy f s (taken (is_text_or_none (kind_of (operand_at args 0))) f) w (slice f.world.around f.place low high args w)
  slice_tidy {s} low high args w h = if_sets (is_text_or_none (kind_of (operand_at args 0))) _ (then_tidy (given_tidy c (operand_at args 0) text_type w (operand_set s args 0 (all_given f s args h))) (λ t m k.
      give_helped_tidy c helper.StrSlice text_type _ _ refl (λ e. absurd (cc)) (k.0, (lower_set t low args (all_given f t args (args_more f args m h)), (upper_set t low high args (all_given f t args (args_more f args m h)), tt)))))

  -- ---- methods

  pub strip_tidy : {s : List ℕ} (name : List ℕ) (a : Operand) (w : Writing) → IsSet a.x s → Tidy f s (taken (strip_suits name (kind_of a)) f) w (strip f.world.around f.place name a w)
  strip_tidy name a w h = if_sets (bytes_eq name (codes "strip") && is_text_or_none (kind_of a)) _ (of_text_tidy helper.StrStrip text_type a w refl (λ e. absurd (cc)) h)

  -- each that is found gives something
  abbrev FoundGives : Option Helper → Type 0
  FoundGives None = Unit {0}
  FoundGives (Some h) = helper_gives h ≡ true

  found_if : (b : Bool) (x y : Option Helper) → FoundGives x → FoundGives y → FoundGives (if b then x else y)
  found_if true x y g h = g
  found_if false x y g h = h

  byte_found : (name : List ℕ) → FoundGives (of_byte name)
  unfolding of_byte
  byte_found name = found_if (bytes_eq name (codes "isdigit")) (Some helper.IsDigit) _ refl (found_if (bytes_eq name (codes "isalpha")) (Some helper.IsAlpha) _ refl (found_if (bytes_eq name (codes "isspace")) (Some helper.IsSpace) None refl tt))

  abbrev TwoGive : Option (Helper × LlType) → Type 0
  TwoGive None = Unit {0}
  TwoGive (Some h) = (helper_gives h.0 ≡ true) × (h.1 ≢ type.Void)

  two_if : (b : Bool) (x y : Option (Helper × LlType)) → TwoGive x → TwoGive y → TwoGive (if b then x else y)
  two_if true x y g h = g
  two_if false x y g h = h

  two_found : (name : List ℕ) → TwoGive (two_of name)
  unfolding two_of
  two_found name =
      two_if (bytes_eq name (codes "find")) (Some (helper.StrFind, type.Signed)) _ (refl, λ e. absurd (cc))
      (two_if (bytes_eq name (codes "startswith")) (Some (helper.StrStartsWith, type.Bool)) _ (refl, λ e. absurd (cc)) (two_if (bytes_eq name (codes "endswith")) (Some (helper.StrEndsWith, type.Bool)) None (refl, λ e. absurd (cc)) tt))

  method_of_one_tidy : {s : List ℕ} (h : Option Helper) (k : Kind) (name : List ℕ) (a : Operand) (w : Writing) → FoundGives h → IsSet a.x s
      → Tidy f s (taken (byte_suits h k || strip_suits name (kind_of a)) f) w (method_of_one f.world.around f.place name a (byte_method_by h k f.world.around f.place a w))
  method_of_one_tidy (Some h) kind.Byte name a w g i = give_helped_tidy c h type.Bool (a.x ∷ []) w g (λ e. absurd (cc)) (i, tt)
  method_of_one_tidy h k name a w g i = strip_tidy name a w i

  text_method_by_tidy : {s : List ℕ} (h : Option (Helper × LlType)) (are_texts : Bool) (a b : Operand) (w : Writing) → TwoGive h → IsSet a.x s → IsSet b.x s → Tidy f s (taken (text_suits h are_texts) f) w (text_method_by h are_texts f.world.around f.place a b w)
  text_method_by_tidy (Some h) true a b w g i j = of_texts_tidy h.0 h.1 a b w g.0 g.1 i j
  text_method_by_tidy h are_texts a b w g i j = nothing

  pub method_tidy : {s : List ℕ} (name : List ℕ) (args : List Operand) (w : Writing) → AreThere f args s → Tidy f s (taken (method_suits name args) f) w (method f.world.around f.place name args w)
  unfolding byte_method
  method_tidy name (a ∷ []) w h = method_of_one_tidy (of_byte name) (kind_of a) name a w (byte_found name) h.0.inside
  method_tidy name (a ∷ b ∷ []) w h = text_method_by_tidy (two_of name) (is_text_or_none (kind_of a) && is_text (kind_of b)) a b w (two_found name) h.0.inside h.1.0.inside
  method_tidy name args w h = nothing

  pub write_tidy : {s : List ℕ} (a : Operand) (w : Writing) → IsSet a.x s → Tidy f s (taken true f) w (write f.world.around f.place a w)
  write_tidy a w h = if_tidy (is_text (kind_of a)) _ _ (of_text_tidy helper.StrWrite type.Signed a w refl (λ e. absurd (cc)) h) (give_nothing_tidy c w)
