pub mod FurtherRows
