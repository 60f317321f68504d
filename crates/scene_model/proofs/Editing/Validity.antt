-- An edit that is not refused keeps a scene valid.
use Rattle.scene_model.specs.declared.edit.Edit.TheVariants.{AddNode, MoveNode, SizeNode, DropNode, AddPin, DropPin, AddEdge, CutEdge, SetClasses, AddVia, DropVia, Set}
use Rattle.scene_model.specs.Inverses.{KeepsValid}
use Rattle.scene_model.proofs.Editing.NodeEdits.{add_node, move_node, size_node, drop_node, add_pin, drop_pin}
use Rattle.scene_model.proofs.Editing.EdgeEdits.{add_edge, cut_edge, set_classes, add_via, drop_via, set_value}

pub keeps_valid : KeepsValid
keeps_valid (AddNode id x y w h) s d v r = add_node s id x y w h v r
keeps_valid (MoveNode id x y) s d v r = move_node s id x y v r
keeps_valid (SizeNode id w h) s d v r = size_node s id w h v r
keeps_valid (DropNode id) s d v r = drop_node s id v r
keeps_valid (AddPin id class dx dy dirs) s d v r = add_pin s id class dx dy dirs d v r
keeps_valid (DropPin id place) s d v r = drop_pin s id place v r
keeps_valid (AddEdge from to from_class to_class) s d v r = add_edge s from to from_class to_class v r
keeps_valid (CutEdge number) s d v r = cut_edge s number v
keeps_valid (SetClasses number from_class to_class) s d v r = set_classes s number from_class to_class v r
keeps_valid (AddVia number place x y) s d v r = add_via s number place x y v r
keeps_valid (DropVia number place) s d v r = drop_via s number place v r
keeps_valid (Set what value) s d v r = set_value s what value v r
