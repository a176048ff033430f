use Rattle.std.proofs.Common.{◌∙◌, ap, sym, map, string_bytes}
use Rattle.list_facts.proofs.Lists.{map-map}
use Rattle.guppy_package_table.specs.Tables.{place_among}
use Rattle.guppy_package_table.proofs.members.members_of.Goals as goal

pub returns-in-Ok : goal.returns-in-Ok
returns-in-Ok c = rw (← c.workspace.view_is) (record {
  ids = c.in_ok-member_ids.ensures ∙ ap (map (λ m. m.package_id)) c.deref-3.ensures.value;
  numbers = c.in-Ok.ensures ∙ ap (map (place_among c.in_ok-member_ids.member_ids.keys)) c.as_slice.ensures.keys ∙ ap (λ keys. map (place_among keys) c.args.ids.now.keys) (c.in_ok-member_ids.ensures ∙ ap (map (λ m. m.package_id)) c.deref-3.ensures.value);
  places = c.in_ok-places.ensures ∙ ap (map _) c.deref.ensures.value;
  defaults = c.in_ok-defaults.ensures ∙ ap (map (λ m. place_among c.args.ids.now.keys (string_bytes m))) c.deref-2.ensures.value ∙ sym (map-map (place_among c.args.ids.now.keys) string_bytes c.workspace.inside.default_members.items);
})
