pub mod OpenStripes
