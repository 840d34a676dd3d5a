-- The parts of an expression or a target, in the order of the text, and what its node is.
use Rattle.std.specs.Prelude.{◌+◌, List, [], ◌∷◌, ◌++◌, length, Option, Some, None}
use Rattle.rpy_tree.specs.declared.syntax.Expr.TheOpen.{Expr-F, Target-F}
use Rattle.names_rules.specs.Order as order
use Rattle.names_rules.specs.Order.{Item}

abbrev pub listed : {X : Type 0} → Option X → List X
listed None = []
listed (Some x) = x ∷ []

-- a key before its value
abbrev pub both : {X : Type 0} → List (X × X) → List X
both [] = []
both (p ∷ ps) = p.0 ∷ p.1 ∷ both ps

abbrev pub expr_parts : {X : Type 0} → Expr-F X X → List X
expr_parts (Expr-F.Int n v) = []
expr_parts (Expr-F.Str n text) = []
expr_parts (Expr-F.Expr::Name n name) = []
expr_parts (Expr-F.Unary n op a) = a ∷ []
expr_parts (Expr-F.Binary n op a b) = a ∷ b ∷ []
expr_parts (Expr-F.Compare n op a b) = a ∷ b ∷ []
expr_parts (Expr-F.Logic n is_and a b) = a ∷ b ∷ []
expr_parts (Expr-F.Not n a) = a ∷ []
expr_parts (Expr-F.Call n f args) = f ∷ args
expr_parts (Expr-F.Expr::Attr n a name) = a ∷ []
expr_parts (Expr-F.Index n a i) = a ∷ i ∷ []
expr_parts (Expr-F.Slice n a from to) = a ∷ (listed from ++ listed to)
expr_parts (Expr-F.Expr::Tuple n items) = items
expr_parts (Expr-F.List n items) = items
expr_parts (Expr-F.Dict n pairs) = both pairs
expr_parts (Expr-F.Comp n item target over test) = item ∷ target ∷ over ∷ listed test

abbrev pub target_parts : {X : Type 0} → Target-F X X → List X
target_parts (Target-F.Target::Name n name) = []
target_parts (Target-F.Target::Attr n a name) = a ∷ []
target_parts (Target-F.Item n a i) = a ∷ i ∷ []
target_parts (Target-F.Target::Tuple n parts) = parts

-- ---- the node, by its layer

abbrev pub expr_item : {X : Type 0} → Expr-F X X → Item
expr_item (Expr-F.Int n v) = order.Int v
expr_item (Expr-F.Str n text) = order.Str text
expr_item (Expr-F.Expr::Name n name) = order.Name name
expr_item (Expr-F.Unary n op a) = order.Unary op
expr_item (Expr-F.Binary n op a b) = order.Binary op
expr_item (Expr-F.Compare n op a b) = order.Other 2
expr_item (Expr-F.Logic n is_and a b) = order.Other 2
expr_item (Expr-F.Not n a) = order.Other 1
expr_item (Expr-F.Call n f args) = order.Call (length args)
expr_item (Expr-F.Expr::Attr n a name) = order.Attr name
expr_item (Expr-F.Index n a i) = order.Other 2
expr_item (Expr-F.Slice n a from to) = order.Slice (1 + length (listed from) + length (listed to))
expr_item (Expr-F.Expr::Tuple n items) = order.Tuple (length items)
expr_item (Expr-F.List n items) = order.List_of (length items)
expr_item (Expr-F.Dict n pairs) = order.Dict (length pairs)
expr_item (Expr-F.Comp n item target over test) = order.Comp (3 + length (listed test))

abbrev pub target_item : {X : Type 0} → Target-F X X → Item
target_item (Target-F.Target::Name n name) = order.Bind name
target_item (Target-F.Target::Attr n a name) = order.BindAttr name
target_item (Target-F.Item n a i) = order.Other 2
target_item (Target-F.Target::Tuple n parts) = order.Other (length parts)
