-- A body in flat form may be lent to other threads.
use denote.Builtin.{u32, u64}
use denote.Hole.{as_row}
use denote.Struct.Field.{Field, row_field, u32-field, u64-field}
use denote.Param.Send.{IsSync, view_sync, recorded_sync, sendable}
use denote.Param.SendFields.{as_row_sync, declared_sync, variants_sync}
use denote.Model.Goals.{sync, one_law, part_has, has_of, tied_goals}
use denote.Model.Cut.{split_one}
use denote.Model.Local.{Parts, rows}
use Rattle.std.proofs.Crossing.{Vec-sync}
use Rattle.std.specs.contracts.alloc.Global as Heap
use Rattle.std.specs.contracts.impls.GlobalAllocator.TheImpl.{ghosts}
use Rattle.std.specs.contracts.vec.Vec as Vec
use Rattle.std.specs.contracts.option.Option as Option
use Rattle.verified.specs.declared.body.FlatBody.TheDeep as deep
use Rattle.verified.specs.contracts.body.FlatBody as FlatBody
use Rattle.verified.specs.contracts.body.FlatBody.TheKnot as knot
use Rattle.wasm_ast.specs.contracts.plain.Branch as Branch
use Rattle.wasm_ast.specs.contracts.plain.MemoryArgument as MemoryArgument
use Rattle.wasm_ast.specs.contracts.plain.Plain as Plain
use Rattle.wasm_ast.specs.contracts.types.ValType as ValType
use Rattle.wasm_ast.proofs.plain.Branch.TheSendSync as branch
use Rattle.wasm_ast.proofs.plain.MemoryArgument.TheSendSync as memory_argument
use Rattle.wasm_ast.proofs.plain.Plain.TheSendSync as plain
use Rattle.hub_ends.proofs.CrossingFields.{as_row_of, number_sync, option_sync}

long_sync : IsSync u64-field.row
long_sync = search sendable

number : IsSync (as_row (row_field (as_row u32-field)))
number = as_row_of u32-field number_sync

long : IsSync (as_row (row_field (as_row u64-field)))
long = as_row_of u64-field long_sync

memory : IsSync (as_row (row_field (as_row MemoryArgument.the_field)))
memory = as_row_of MemoryArgument.the_field memory_argument.the_field_sync

plain_part : IsSync (as_row (row_field (as_row Plain.the_field)))
plain_part = as_row_of Plain.the_field plain.the_field_sync

branch_part : IsSync (as_row (row_field (as_row Branch.the_field)))
branch_part = as_row_of Branch.the_field branch.the_field_sync

block_type : IsSync (as_row (row_field (as_row (Option.the_field ValType.the_row))))
block_type = as_row_of (Option.the_field ValType.the_row) option_sync

module _ (p : Parts knot.frame) (body : IsSync (rows knot.frame p deep.member-FlatBody)) where
  held : IsSync (as_row (row_field (rows knot.frame p deep.member-FlatBody)))
  held = as_row_sync (row_field (rows knot.frame p deep.member-FlatBody)) body

  instr_sync : IsSync (knot.at-FlatInstr p)
  instr_sync = recorded_sync _ _ _ (split_one _ _ deep.split-FlatInstr deep.join-FlatInstr deep.joins-FlatInstr)
      (variants_sync (knot.type-FlatInstr (rows knot.frame p deep.member-FlatBody) (rows knot.frame p deep.member-FlatBody) (rows knot.frame p deep.member-FlatBody) (rows knot.frame p deep.member-FlatBody)) (
        (number, tt),
        (
          (number, tt),
          (
            (number, tt),
            (
              (number, tt),
              (
                (number, tt),
                (
                  (number, tt),
                  (
                    (long, tt),
                    (
                      tt,
                      (
                        tt,
                        (
                          tt,
                          (
                            tt,
                            (
                              tt,
                              (
                                tt,
                                (
                                  tt,
                                  (
                                    tt,
                                    (
                                      tt,
                                      (
                                        tt,
                                        (
                                          tt,
                                          (
                                            tt,
                                            (
                                              tt,
                                              (
                                                tt,
                                                (
                                                  tt,
                                                  (
                                                    tt,
                                                    (
                                                      tt,
                                                      (
                                                        tt,
                                                        (
                                                          tt,
                                                          (
                                                            tt,
                                                            (
                                                              tt,
                                                              (
                                                                tt,
                                                                (
                                                                  tt,
                                                                  (
                                                                    tt,
                                                                    (
                                                                      tt,
                                                                      (
                                                                        tt,
                                                                        (
                                                                          tt,
                                                                          (
                                                                            tt,
                                                                            (
                                                                              tt,
                                                                              (
                                                                                tt,
                                                                                (
                                                                                  tt,
                                                                                  (
                                                                                    tt,
                                                                                    (
                                                                                      tt,
                                                                                      (
                                                                                        tt,
                                                                                        (
                                                                                          tt,
                                                                                          (
                                                                                            tt,
                                                                                            (
                                                                                              tt,
                                                                                              (
                                                                                                tt,
                                                                                                (
                                                                                                  tt,
                                                                                                  (
                                                                                                    tt,
                                                                                                    (
                                                                                                      tt,
                                                                                                      (
                                                                                                        (memory, tt),
                                                                                                        (
                                                                                                          (memory, tt),
                                                                                                          (
                                                                                                            (plain_part, tt),
                                                                                                            (
                                                                                                              (number, tt),
                                                                                                              (
                                                                                                                (number, tt),
                                                                                                                (
                                                                                                                  (branch_part, tt),
                                                                                                                  (
                                                                                                                    (number, tt),
                                                                                                                    (
                                                                                                                      (number, tt),
                                                                                                                      (
                                                                                                                        tt,
                                                                                                                        (
                                                                                                                          (block_type, (held, tt)),
                                                                                                                          (
                                                                                                                            (block_type, (held, tt)),
                                                                                                                            ((block_type, (held, (held, tt))), tt),
                                                                                                                          ),
                                                                                                                        ),
                                                                                                                      ),
                                                                                                                    ),
                                                                                                                  ),
                                                                                                                ),
                                                                                                              ),
                                                                                                            ),
                                                                                                          ),
                                                                                                        ),
                                                                                                      ),
                                                                                                    ),
                                                                                                  ),
                                                                                                ),
                                                                                              ),
                                                                                            ),
                                                                                          ),
                                                                                        ),
                                                                                      ),
                                                                                    ),
                                                                                  ),
                                                                                ),
                                                                              ),
                                                                            ),
                                                                          ),
                                                                        ),
                                                                      ),
                                                                    ),
                                                                  ),
                                                                ),
                                                              ),
                                                            ),
                                                          ),
                                                        ),
                                                      ),
                                                    ),
                                                  ),
                                                ),
                                              ),
                                            ),
                                          ),
                                        ),
                                      ),
                                    ),
                                  ),
                                ),
                              ),
                            ),
                          ),
                        ),
                      ),
                    ),
                  ),
                ),
              ),
            ),
          ),
        ),
      ))

  layer_sync : IsSync (knot.at-FlatBody p)
  layer_sync = recorded_sync _ _ _ (split_one _ _ deep.split-FlatBody deep.join-FlatBody deep.joins-FlatBody)
      (declared_sync (knot.type-FlatBody (knot.at-FlatInstr p)) (as_row_sync (row_field (Vec.the_row (knot.at-FlatInstr p) Heap.the_row ghosts)) (Vec-sync (knot.at-FlatInstr p) instr_sync), tt))

  step_sync : IsSync (rows knot.frame (knot.step p) deep.member-FlatBody)
  step_sync = has_of knot.frame sync (knot.step p) deep.member-FlatBody (part_has sync (knot.view-FlatBody p) (view_sync (knot.at-FlatBody p) _ _ _ _ layer_sync))

steps : (p : Parts knot.frame) → ((i : deep.the_members) → IsSync (rows knot.frame p i)) → (i : deep.the_members) → IsSync (rows knot.frame (knot.step p) i)
steps p all deep.member-FlatBody = step_sync p (all deep.member-FlatBody)

pub flat_sync : IsSync FlatBody.the_row
flat_sync = tied_goals knot.frame knot.step knot.sizes (one_law deep.the_members sync) steps deep.member-FlatBody
