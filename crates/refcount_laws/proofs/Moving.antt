-- Moves of references, one behind the other.
use Rattle.std.proofs.Common.{◌≡◌, ℕ, ◌+◌, List, map, Option, refl, ap, ◌∙◌, subst, arith}
use Rattle.csub_tree.specs.State.{Value, Ptr, Static, Block}
use Rattle.ll_code.specs.State.{State}
use Rattle.ll_code.specs.declared.program.LlProgram.{LlProgram}
use Rattle.refcount_laws.specs.Graphs.{Counts}
use Rattle.refcount_laws.specs.Ghost.{inner, fixed_at, shown_fixed, Ghost, IsFixed, IsCounted}
use Rattle.refcount_laws.specs.Runs.{Leads}
use Rattle.refcount_laws.specs.Touched.{Shows, Moved}
use Rattle.refcount_laws.proofs.Steps.{leads_on}
use Rattle.refcount_laws.proofs.Touching.{untouched, touched_on}

module _ (q : LlProgram) (args : List (List ℕ)) (c : Counts) where
  pub own_same : (g : Ghost) (own own' : Value → ℕ) → ((r : Value) → own r ≡ own' r) → IsCounted q c g own → IsCounted q c g own'
  own_same g own own' e x = record {
    blocks = λ b. omega (arith, x.blocks b, e (Ptr b));
    statics = λ s. subst (IsFixed c (fixed_at g.statics s)) (ap (λ n. inner c g.blocks (Static s) + n) (e (Static s))) (x.statics s);
    small = x.small;
    small_static = x.small_static;
    whole = x.whole;
  }

  pub before : (g : Ghost) (h : List (Option Block)) (own : Value → ℕ) (first from : State) (to : List (Option Block) → List Block → State) → Leads q args first from → Moved q args c g h own from to → Moved q args c g h own first to
  before g h own first from to l m = record {
    later = m.later;
    blocks = m.blocks;
    same = m.same;
    same_statics = m.same_statics;
    size = m.size;
    size_statics = m.size_statics;
    weighs = m.weighs;
    inners = m.inners;
    counted = m.counted;
    touched = m.touched;
    leads = leads_on q args l m.leads;
  }

  pub behind : (g : Ghost) (h : List (Option Block)) (own : Value → ℕ) (from : State) (to last : List (Option Block) → List Block → State) → Moved q args c g h own from to → ((h : List (Option Block)) (s : List Block) → Leads q args (to h s) (last h s))
      → Moved q args c g h own from last
  behind g h own from to last m l = record {
    later = m.later;
    blocks = m.blocks;
    same = m.same;
    same_statics = m.same_statics;
    size = m.size;
    size_statics = m.size_statics;
    weighs = m.weighs;
    inners = m.inners;
    counted = m.counted;
    touched = m.touched;
    leads = leads_on q args m.leads (l m.blocks (map shown_fixed m.later.statics));
  }

  pub moved_on : (g : Ghost) (h : List (Option Block)) (own own' : Value → ℕ) (from : State) (mid to : List (Option Block) → List Block → State) → (x : Moved q args c g h own from mid)
      → Moved q args c x.later x.blocks own' (mid x.blocks (map shown_fixed x.later.statics)) to → Moved q args c g h own' from to
  moved_on g h own own' from mid to x y = record {
    later = y.later;
    blocks = y.blocks;
    same = λ b. y.same b ∙ x.same b;
    same_statics = λ s. y.same_statics s ∙ x.same_statics s;
    size = y.size ∙ x.size;
    size_statics = y.size_statics ∙ x.size_statics;
    weighs = omega (arith, x.weighs, y.weighs);
    inners = λ r. omega (arith, x.inners r, y.inners r);
    counted = y.counted;
    touched = touched_on c g.blocks x.later.blocks y.later.blocks h x.blocks y.blocks x.touched y.touched;
    leads = leads_on q args x.leads y.leads;
  }

  -- nothing but some steps
  pub unmoved : (g : Ghost) (h : List (Option Block)) (own : Value → ℕ) (from : State) (to : List (Option Block) → List Block → State) → Shows c h g.blocks → IsCounted q c g own → Leads q args from (to h (map shown_fixed g.statics))
      → Moved q args c g h own from to
  unmoved g h own from to sh counted l = record {
    later = g;
    blocks = h;
    same = λ b. refl;
    same_statics = λ s. refl;
    size = refl;
    size_statics = refl;
    weighs = omega arith;
    inners = λ r. omega arith;
    counted = counted;
    touched = untouched c g.blocks h sh;
    leads = l;
  }
