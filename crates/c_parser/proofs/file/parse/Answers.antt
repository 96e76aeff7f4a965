use Rattle.c_parser.proofs.WholeFile.{parsed_found, parsed_none, parsed_only, parsed_formed, parsed_small}
use Rattle.c_parser.proofs.file.parse.Goals as goal

pub returns : goal.returns
returns c = record {
  found = parsed_found c.file.result c.args.tokens.now c.file.ensures;
  none = parsed_none c.file.result c.args.tokens.now c.file.ensures;
  only = parsed_only c.file.result c.args.tokens.now c.file.ensures;
  formed = parsed_formed c.file.result c.args.tokens.now c.requires c.file.ensures;
  small = parsed_small c.file.result c.args.tokens.now c.file.ensures;
}
